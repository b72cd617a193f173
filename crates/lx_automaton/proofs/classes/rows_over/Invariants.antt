use Rattle.std.proofs.Common.{◌*◌, length}
use Rattle.lx_automaton.specs.Classing.{AreRows}
use Rattle.lx_automaton.proofs.classes.rows_over.Given as goal

abbrev pub invariant-loop-state : goal.invariant-loop-state
invariant-loop-state l = AreRows l.draft l.representatives l.encoded.items (l.state * length l.representatives)
