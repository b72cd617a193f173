use Rattle.lx_auto.specs.Blocks.{HaveEnds}
use Rattle.lx_auto.proofs.rules.block_steps.find_all_ends.Given as goal

abbrev pub invariant-loop-i : goal.invariant-loop-i
invariant-loop-i l = HaveEnds l.marks l.blocks l.ends.items l.i
