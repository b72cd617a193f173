use Rattle.std.proofs.Common.{ℕ, ◌<◌, List}
use Rattle.lx_auto.specs.Following.{IsMatchedAt}
use Rattle.lx_auto.specs.PositionSets.{NumberedRule}
use Rattle.lx_auto.specs.RuleLists.{AreMatchedAt}
use Rattle.lx_auto.specs.RuleParts.{ArePartsOf}
use Rattle.lx_auto.proofs.sets.all_matched.matched_from.Given as goal

abbrev pub invariant-loop-i : goal.invariant-loop-i
invariant-loop-i l = (rules : List NumberedRule) (total : ℕ) → ArePartsOf l.parts rules total → ((i : ℕ) → i < l.first → IsMatchedAt rules l.marks i → ⊥) →
    AreMatchedAt rules l.marks l.i l.found.items
