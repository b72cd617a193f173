use Rattle.std.proofs.Common.{◌≡◌}
use Rattle.lx_tables.specs.Readers.{onto, read_steps}
use Rattle.lx_tables.proofs.lenient.steps.Given as goal

abbrev pub invariant-loop-left : goal.invariant-loop-left
invariant-loop-left l = onto l.steps.items (read_steps l.left l.rest) ≡ read_steps l.most l.text

abbrev pub decreases-loop-left : goal.decreases-loop-left
decreases-loop-left l = l.left
