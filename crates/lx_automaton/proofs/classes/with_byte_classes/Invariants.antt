use Rattle.lx_automaton.specs.Classing.{AreNumbersBelow}
use Rattle.lx_automaton.proofs.classes.with_byte_classes.Given as goal

abbrev pub invariant-loop-byte : goal.invariant-loop-byte
invariant-loop-byte l = AreNumbersBelow l.draft l.byte l.numbers.items l.representatives.items
