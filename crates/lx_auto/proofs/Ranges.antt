-- The positions of a rule lie in its range, and the ranges of rules lie apart.
use Rattle.std.proofs.Common.{◌≡◌, ℕ, zero, suc, ◌+◌, ◌≤◌, ◌<◌, inl, inr, Bool, true, false, IsTrue, List, [], ◌∷◌, Option, Some, None, refl, sym, ◌∙◌, ap, arith}
use Rattle.std.proofs.lemmas.Bool.{cases_lt}
use Rattle.std.specs.Prelude.{slice_get}
use Rattle.lx_ere.specs.Regex.{Regex}
use Rattle.lx_rules.specs.Plain.{PlainRule}
use Rattle.lx_auto.specs.Unfolded.{Unfolded, position_count}
use Rattle.lx_auto.specs.Positions.{First}
use Rattle.lx_auto.specs.Counts.{newline_count}
use Rattle.lx_auto.specs.PositionSets.{NumberedRule, newline_of, size_of, numbered, HasRuleByte}
use Rattle.lx_auto.specs.RuleReach.{RuleFollow, FinalWithEnd, IsFinal, IsReachedInRule}
use Rattle.lx_auto.specs.Following.{InRange}
use Rattle.lx_auto.proofs.Words.{in_first, in_last, in_follow}
use Rattle.lx_auto.proofs.RuleReached.{in_bytes, in_reached}

newline_in : (r : NumberedRule) (q : ℕ) → IsTrue r.rule.reading.line_end → q ≡ newline_of r → InRange r q
newline_in r q e s = let one : newline_count r.rule.reading.line_end ≡ 1 = ap newline_count e in (omega arith, omega arith)

pub bytes_in : (r : NumberedRule) (q b : ℕ) → HasRuleByte r q b → InRange r q
bytes_in r q b h = elim h [
  | inl x ↦ let s = in_bytes r.tree r.base q b x in (omega arith, omega arith)
  | inr x ↦ newline_in r q x.0 x.1
]

pub follow_in : (r : NumberedRule) (p q : ℕ) → RuleFollow r p q → InRange r p × InRange r q
follow_in r p q h = elim h [
  | inl x ↦ let s = in_follow r.tree r.base p q x in ((omega arith, omega arith), (omega arith, omega arith))
  | inr x ↦ let s = in_last r.tree r.base p x.1 in ((omega arith, omega arith), newline_in r q x.0 x.2)
]

pub first_in : (r : NumberedRule) (q : ℕ) → First r.tree r.base q → InRange r q
first_in r q h = let s = in_first r.tree r.base q h in (omega arith, omega arith)

final_in_with : (r : NumberedRule) (q : ℕ) (line_end : Bool) → r.rule.reading.line_end ≡ line_end → FinalWithEnd line_end r q → InRange r q
final_in_with r q false is h = let s = in_last r.tree r.base q h in (omega arith, omega arith)
final_in_with r q true is h = newline_in r q is h

pub final_in : (r : NumberedRule) (q : ℕ) → IsFinal r q → InRange r q
final_in r q h = final_in_with r q r.rule.reading.line_end refl h

pub reached_in : (r : NumberedRule) (w : List ℕ) (q : ℕ) → IsReachedInRule r w q → InRange r q
reached_in r w q h = elim h [
  | inl x ↦ let s = in_reached (HasRuleByte r) r.tree r.base q w x in (omega arith, omega arith)
  | inr x ↦ newline_in r q x.0 x.1
]

module _ (tree_of : Regex → Unfolded) where
  pub behind_base : (base : ℕ) (rules : List PlainRule) (i : ℕ) (r : NumberedRule) → slice_get (numbered tree_of base rules) i ≡ Some r → base ≤ r.base
  behind_base base [] i r h = absurd (cc)
  behind_base base (rule ∷ rules) zero r h = let e : r.base ≡ base = ap base_of (sym h) in omega arith
    where
      base_of : Option NumberedRule → ℕ
      base_of None = 0
      base_of (Some r) = r.base
  behind_base base (rule ∷ rules) (suc i) r h =
      let s = behind_base (base + (position_count (tree_of rule.reading.tree) + newline_count rule.reading.line_end)) rules i r h in omega arith

  pub ranges_apart : (base : ℕ) (rules : List PlainRule) (i j : ℕ) (r s : NumberedRule) → i < j →
      slice_get (numbered tree_of base rules) i ≡ Some r → slice_get (numbered tree_of base rules) j ≡ Some s → r.base + size_of r ≤ s.base
  ranges_apart base [] i j r s l hi hj = absurd (cc)
  ranges_apart base (rule ∷ rules) i zero r s l hi hj = absurd (omega arith)
  ranges_apart base (rule ∷ rules) zero (suc j) r s l hi hj =
      let b = behind_base (base + (position_count (tree_of rule.reading.tree) + newline_count rule.reading.line_end)) rules j s hj in
      let e : r.base + size_of r ≡ base + (position_count (tree_of rule.reading.tree) + newline_count rule.reading.line_end) = ap end_of (sym hi) in
      omega arith
    where
      end_of : Option NumberedRule → ℕ
      end_of None = 0
      end_of (Some r) = r.base + size_of r
  ranges_apart base (rule ∷ rules) (suc i) (suc j) r s l hi hj =
      ranges_apart (base + (position_count (tree_of rule.reading.tree) + newline_count rule.reading.line_end)) rules i j r s (omega arith) hi hj

  pub same_rule : (base : ℕ) (rules : List PlainRule) (i j : ℕ) (r s : NumberedRule) (q : ℕ) →
      slice_get (numbered tree_of base rules) i ≡ Some r → slice_get (numbered tree_of base rules) j ≡ Some s → InRange r q → InRange s q → (i ≡ j) × (r ≡ s)
  same_rule base rules i j r s q hi hj ri rj = elim (cases_lt i j) [
    | inl l ↦ let a = ranges_apart base rules i j r s l hi hj in absurd (omega arith)
    | inr m ↦ elim (cases_lt j i) [
      | inl l ↦ let a = ranges_apart base rules j i s r l hj hi in absurd (omega arith)
      | inr n ↦ let e : i ≡ j = omega arith in
          let f : Some r ≡ Some s = sym hi ∙ ap (λ k. slice_get (numbered tree_of base rules) k) e ∙ hj in
          (e, (cc))
    ]
  ]
