use Rattle.std.proofs.Common.{◌≡◌, ℕ, Bool, List, length}
use Rattle.lx_rules.specs.Plain.{PlainSpec}
use Rattle.lx_auto.specs.PositionSets.{NumberedRule}
use Rattle.lx_auto.specs.RuleParts.{ArePartsOf}
use Rattle.lx_rules.specs.Starts.{AreActive}
use Rattle.lx_auto.specs.Following.{AreNumbered, BeginsWith, AreReadBelow}
use Rattle.lx_auto.proofs.sets.follow.begin.Given as goal

abbrev pub invariant-loop-i : goal.invariant-loop-i
invariant-loop-i l = record {
  long : length l.reads.items ≡ l.total;
  reads : (spec : PlainSpec) (condition : ℕ) (begin : Bool) (rules : List NumberedRule) → AreNumbered spec rules → ArePartsOf l.parts rules l.total →
      AreActive spec condition begin l.active → AreReadBelow (BeginsWith spec condition begin) rules l.i l.reads.items;
}
