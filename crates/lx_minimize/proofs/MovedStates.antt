-- Moved states among states that are given.
use Rattle.std.proofs.Common.{ℕ, zero, suc, ◌<◌, inl, inr, Bool, true, List, [], ◌∷◌, ◌++◌, length, get_or, take, sym, ◌∙◌, subst, arith}
use Rattle.std.specs.Prelude.{Contains, slice_index}
use Rattle.std.proofs.lemmas.List.{get_or_default}
use Rattle.lx_minimize.specs.Completion.{total}
use Rattle.lx_minimize.specs.Partitions.{IsMoved, AreMovedStates}
use Rattle.lx_minimize.specs.Sources.{AreMovedStatesAmong, ContainPreimage}
use Rattle.lx_minimize.specs.declared.complete.Complete.{Complete}
use Rattle.lx_minimize.proofs.Containing.{push_keeps, push_has, push_cases, take_cases}
use Rattle.lx_automaton.proofs.Members.{contains_nil, contains_head, contains_tail, contains_cases, contains_at}

take_more : (xs : List ℕ) (i q : ℕ) → Contains (take i xs) q → Contains (take (suc i) xs) q
take_more xs zero q h = absurd (contains_nil q h)
take_more [] (suc i) q h = h
take_more (x ∷ xs) (suc i) q h = elim (contains_cases x q (take i xs) h) [
  | inl e ↦ subst (λ z. Contains (x ∷ take (suc i) xs) z) e (contains_head x (take (suc i) xs))
  | inr c ↦ contains_tail x q (take (suc i) xs) (take_more xs i q c)
]

take_last : (xs : List ℕ) (i : ℕ) → i < length xs → Contains (take (suc i) xs) (get_or xs i 0)
take_last [] i h = absurd (omega arith)
take_last (x ∷ xs) zero h = contains_head x (take zero xs)
take_last (x ∷ xs) (suc i) h = contains_tail x (get_or xs i 0) (take (suc i) xs) (take_last xs i (omega arith))

module _ (m : Complete) (blocks : List ℕ) (inside : List Bool) (from class : ℕ) (wanted : Bool) (states : List ℕ) where
  pub among_nothing : AreMovedStatesAmong m blocks inside from class wanted (take 0 states) []
  among_nothing = record { each = λ s h. absurd (contains_nil s h); all = λ s h e. absurd (contains_nil s h) }

  pub among_push : (moved_states : List ℕ) (i : ℕ) → i < length states → AreMovedStatesAmong m blocks inside from class wanted (take i states) moved_states →
      IsMoved m blocks inside from class wanted (get_or states i 0) → AreMovedStatesAmong m blocks inside from class wanted (take (suc i) states) (moved_states ++ get_or states i 0 ∷ [])
  among_push moved_states i less are is = record {
    each = λ s h. elim (push_cases moved_states (get_or states i 0) s h) [
      | inl k ↦ let e = are.each s k in (take_more states i s e.0, e.1)
      | inr e ↦ (subst (λ z. Contains (take (suc i) states) z) e (take_last states i less), subst (λ z. IsMoved m blocks inside from class wanted z) e is)
    ];
    all = λ s h e. elim (take_cases states i s h) [
      | inl k ↦ push_keeps moved_states (get_or states i 0) s (are.all s k e)
      | inr k ↦ subst (λ z. Contains (moved_states ++ get_or states i 0 ∷ []) z) k.1 (push_has moved_states (get_or states i 0))
    ];
  }

  pub among_skip : (moved_states : List ℕ) (i : ℕ) → AreMovedStatesAmong m blocks inside from class wanted (take i states) moved_states →
      (IsMoved m blocks inside from class wanted (get_or states i 0) → ⊥) → AreMovedStatesAmong m blocks inside from class wanted (take (suc i) states) moved_states
  among_skip moved_states i are isnt = record {
    each = λ s h. let e = are.each s h in (take_more states i s e.0, e.1);
    all = λ s h e. elim (take_cases states i s h) [
      | inl k ↦ are.all s k e
      | inr k ↦ absurd (isnt (subst (λ z. IsMoved m blocks inside from class wanted z) (sym k.1) e))
    ];
  }

-- if the states have all that step into the set, these have all moved states
pub all_moved_states : (m : Complete) (blocks : List ℕ) (inside : List Bool) (from class : ℕ) (states moved_states : List ℕ) → ContainPreimage m inside class states →
    AreMovedStatesAmong m blocks inside from class true states moved_states → AreMovedStates m blocks inside from class true (total m) moved_states
all_moved_states m blocks inside from class states moved_states have are = record {
  below = λ j h. have.below (slice_index moved_states j) (are.each (slice_index moved_states j) (contains_at moved_states j h)).0;
  each = λ j h. (are.each (slice_index moved_states j) (contains_at moved_states j h)).1;
  all = λ s h e. let c = are.all s (have.all s h e.target) e in (c.0, c.1, get_or_default moved_states c.0 0 s c.1 ∙ c.2);
}
