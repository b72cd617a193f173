use Rattle.std.proofs.Common.{◌≡◌, ◌≤◌, ◌-◌, ℕ, List, [], false, length}
use Rattle.lx_rules.specs.Plain.{PlainSpec}
use Rattle.lx_auto.specs.BarePositions.{IsBareIn}
use Rattle.lx_auto.specs.Marking.{flag}
use Rattle.lx_auto.specs.Members.{places_from}
use Rattle.lx_auto.specs.PositionSets.{NumberedRule}
use Rattle.lx_auto.specs.RuleParts.{ArePartsOf}
use Rattle.lx_auto.specs.Following.{AreNumbered, FollowsMarked, AreReadBelow, IsFirstMatchedBelow}
use Rattle.lx_auto.proofs.sets.set_steps.step_rules.Given as goal

abbrev pub invariant-rules : goal.invariant-rules
invariant-rules l = record {
  within : l.i ≤ length l.parts;
  long : length l.reads.items ≡ length l.fn.reads.items;
  reads : (spec : PlainSpec) (rules : List NumberedRule) → AreNumbered spec rules → ArePartsOf l.parts rules (length l.fn.reads.items) →
      ((q : ℕ) → flag l.fn.reads.items q ≡ false) → AreReadBelow (FollowsMarked l.marks) rules l.i l.reads.items;
  matched : (spec : PlainSpec) (rules : List NumberedRule) → AreNumbered spec rules → ArePartsOf l.parts rules (length l.fn.reads.items) →
      IsFirstMatchedBelow rules l.marks l.i l.found;
  next : (spec : PlainSpec) (rules : List NumberedRule) → AreNumbered spec rules → ArePartsOf l.parts rules (length l.fn.reads.items) →
      ((q : ℕ) → flag l.fn.reads.items q ≡ false) → l.fn.next.items ≡ [] → l.next.items ≡ places_from 0 l.reads.items;
  bare : IsBareIn l.set l.bare;
}

abbrev pub decreases-rules : goal.decreases-rules
decreases-rules l = length l.parts - l.i
