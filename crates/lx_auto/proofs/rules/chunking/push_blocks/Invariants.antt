use Rattle.std.proofs.Common.{◌≡◌, ◌++◌}
use Rattle.lx_auto.proofs.rules.chunking.push_blocks.Given as goal

abbrev pub invariant-loop-nodes : goal.invariant-loop-nodes
invariant-loop-nodes l = l.blocks.items ≡ l.fn.blocks.items ++ l.yielded
