use Rattle.std.proofs.Common.{◌≡◌, map, take}
use Rattle.lx_auto.specs.Blocks.{last_flag}
use Rattle.lx_auto.proofs.rules.block_steps.last_flags.Given as goal

abbrev pub invariant-loop-i : goal.invariant-loop-i
invariant-loop-i l = l.flags.items ≡ map last_flag (take l.i l.ends)
