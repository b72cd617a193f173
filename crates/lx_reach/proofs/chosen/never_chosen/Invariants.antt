use Rattle.lx_reach.specs.Chosen.{AreNeverChosen}
use Rattle.lx_reach.proofs.chosen.never_chosen.Given as goal

abbrev pub invariant-loop-number : goal.invariant-loop-number
invariant-loop-number l = AreNeverChosen l.tables l.number l.rules.items
