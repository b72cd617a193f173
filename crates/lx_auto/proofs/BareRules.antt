-- Rules that are left out together, since none of their positions is marked.
use Rattle.std.proofs.Common.{◌≡◌, ℕ, ◌+◌, ◌≤◌, ◌<◌, inl, inr, Bool, false, List, Option, Some, None, length, sym, ◌∙◌, ap, arith}
use Rattle.std.proofs.lemmas.Bool.{cases_lt}
use Rattle.std.specs.Prelude.{slice_get}
use Rattle.lx_rules.specs.Plain.{PlainSpec}
use Rattle.lx_auto.specs.Unfolded.{position_count}
use Rattle.lx_auto.specs.Marking.{flag}
use Rattle.lx_auto.specs.PositionSets.{NumberedRule}
use Rattle.lx_auto.specs.RuleParts.{ArePartsOf, EndBefore}
use Rattle.lx_auto.specs.Following.{AreNumbered, FollowsMarked, AreReadBelow, IsFirstMatchedBelow}
use Rattle.lx_auto.specs.declared.rules.rule_part.RulePart.{RulePart}
use Rattle.lx_auto.proofs.Followed.{untouched_reads, untouched_ends}
use Rattle.lx_auto.proofs.StepAll.{some_at}

module _ (marks : List Bool) (spec : PlainSpec) (rules : List NumberedRule) (parts : List RulePart) (total i j from until : ℕ) (first : RulePart)
    (numbered : AreNumbered spec rules) (are : ArePartsOf parts rules total) (inside : i < length parts) (at : slice_get parts i ≡ Some first) (low : from ≤ first.base)
    (within : j ≤ length parts) (high : EndBefore parts j until) (bare : (q : ℕ) → from ≤ q → q < until → flag marks q ≡ false) where
  -- the positions of later rules are greater
  rising : (k l : ℕ) (r s : NumberedRule) → k ≤ l → slice_get rules k ≡ Some r → slice_get rules l ≡ Some s → r.base ≤ s.base
  rising k l r s order here there = elim (cases_lt k l) [
    | inl before ↦ let apart = numbered.apart k l r s before here there in omega arith
    | inr same ↦
        let one : k ≡ l = omega arith in
        let found : Some r ≡ Some s = sym here ∙ ap (λ n. slice_get rules n) one ∙ there in
        let is : r ≡ s = cc in
        let b : r.base ≡ s.base = ap (λ n. n.base) is in
        omega arith
  ]

  -- the last position of each is before that of the last one
  ending : (k l : ℕ) (r s : NumberedRule) → k ≤ l → slice_get rules k ≡ Some r → slice_get rules l ≡ Some s → r.base + position_count r.tree ≤ s.base + position_count s.tree
  ending k l r s order here there = elim (cases_lt k l) [
    | inl before ↦ let apart = numbered.apart k l r s before here there in omega arith
    | inr same ↦
        let one : k ≡ l = omega arith in
        let found : Some r ≡ Some s = sym here ∙ ap (λ n. slice_get rules n) one ∙ there in
        let is : r ≡ s = cc in
        let b : r.base ≡ s.base = ap (λ n. n.base) is in
        let c : position_count r.tree ≡ position_count s.tree = ap (λ n. position_count n.tree) is in
        omega arith
  ]

  bare_rule : (k : ℕ) (r : NumberedRule) → i ≤ k → k < j → slice_get rules k ≡ Some r → (q : ℕ) → r.base ≤ q → q < r.base + position_count r.tree + 1 → flag marks q ≡ false
  bare_rule k r behind before here q above below =
      let len = are.long in
      let count = high.behind in
      let under = high.below in
      let begin = some_at rules i (omega arith) in
      let end = some_at rules high.place (omega arith) in
      let is = are.each i first begin.0 at begin.1 in
      let its = are.each high.place high.last end.0 high.at end.1 in
      let b = is.base in
      let e = its.base in
      let c = its.count in
      let l = rising i k begin.0 r behind begin.1 here in
      let h = ending k high.place r end.0 (omega arith) here end.1 in
      bare q (omega arith) (omega arith)

  -- none of them can read anything
  pub left_reads : (flags : List Bool) → AreReadBelow (FollowsMarked marks) rules i flags → i ≤ j → AreReadBelow (FollowsMarked marks) rules j flags
  left_reads flags so_far order = record {
    each = λ q. (
      (λ t. let h = (so_far.each q).0 t in let b = h.below in record { place = h.place; below = omega arith; rule = h.rule; at = h.at; reads = h.reads }),
      (λ h. elim (cases_lt h.place i) [
        | inl l ↦ (so_far.each q).1 (record { place = h.place; below = l; rule = h.rule; at = h.at; reads = h.reads })
        | inr l ↦ absurd (untouched_reads h.rule marks (bare_rule h.place h.rule l h.below h.at) q h.reads)
      ]),
    );
  }

  -- none of them has matched
  pub left_matched : (found : Option ℕ) → IsFirstMatchedBelow rules marks i found → i ≤ j → IsFirstMatchedBelow rules marks j found
  left_matched None so_far order = λ k l h. elim (cases_lt k i) [
    | inl m ↦ so_far k m h
    | inr m ↦ untouched_ends h.rule marks (bare_rule k h.rule m l h.at) h.ends
  ]
  left_matched (Some f) so_far order = let l = so_far.0 in (omega arith, so_far.1, so_far.2)
