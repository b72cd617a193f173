use Rattle.std.proofs.Common.{◌+◌, ◌*◌, length}
use Rattle.lx_automaton.specs.Classing.{AreRows}
use Rattle.lx_automaton.proofs.classes.add_row.Given as goal

abbrev pub invariant-loop-number : goal.invariant-loop-number
invariant-loop-number l = AreRows l.draft l.representatives l.encoded.items (l.state * length l.representatives + l.number)
