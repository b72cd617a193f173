-- Pairwise distinct names.
use Rattle.std.proofs.Common.{◌≡◌, ◌∙◌, ℕ, Bool, true, false, not, ◌||◌, nat_eq, List, [], ◌∷◌, ◌++◌, refl, ap, sym}
use Rattle.std.specs.Prelude.{IsTrue}
use Rattle.std.specs.List.{list_any}
use Rattle.std.specs.Cmp.Lexicographic.{pointwise}
use Rattle.std.proofs.lemmas.Bool.Decides.{Decides-eqb}
use Rattle.std.proofs.lemmas.Slice.Eq.{slice_eq-Decides}
use Rattle.std.proofs.lemmas.List.Folds.{list_any-append}
use Rattle.lx_rules.specs.Invariant.{are_distinct}
use Rattle.lx_spec.proofs.Conjunctions.{both, left-of, right-of}

pub same-name : (a b : List ℕ) → pointwise nat_eq a b ≡ true → a ≡ b
same-name a b e = (slice_eq-Decides Decides-eqb a b _ refl).0 e

pub same-name-is : (a b : List ℕ) → a ≡ b → pointwise nat_eq a b ≡ true
same-name-is a b e = (slice_eq-Decides Decides-eqb a b _ refl).1 e

pub no-name : (a b : List ℕ) → (a ≡ b → ⊥) → pointwise nat_eq a b ≡ false
no-name a b n = by (pointwise nat_eq a b) (same-name a b) where
  by : (r : Bool) → (r ≡ true → a ≡ b) → r ≡ false
  by true f = absurd (n (f refl))
  by false f = refl

pub other-name : (a b : List ℕ) → pointwise nat_eq a b ≡ false → pointwise nat_eq b a ≡ false
other-name a b e = no-name b a (λ s. let t : true ≡ false = sym (same-name-is a b (sym s)) ∙ e in cc)

pub or-left : (a b : Bool) → (a || b) ≡ false → a ≡ false
or-left true b e = e
or-left false b e = refl

pub or-right : (a b : Bool) → (a || b) ≡ false → b ≡ false
or-right true b e = cc
or-right false b e = e

not-false : (b : Bool) → b ≡ false → IsTrue (not b)
not-false true e = cc
not-false false e = refl

pub not-true : (b : Bool) → IsTrue (not b) → b ≡ false
not-true true h = cc
not-true false h = refl

-- one more name that isn't there
pub distinct-push : (names : List (List ℕ)) (name : List ℕ) → list_any (λ k. pointwise nat_eq k name) names ≡ false → IsTrue (are_distinct names) → IsTrue (are_distinct (names ++ name ∷ []))
distinct-push [] name new d = refl
distinct-push (x ∷ names) name new d =
    let apart = or-left (pointwise nat_eq x name) (list_any (λ k. pointwise nat_eq k name) names) new in
    let behind = or-right (pointwise nat_eq x name) (list_any (λ k. pointwise nat_eq k name) names) new in
    let old = not-true (list_any (λ other. pointwise nat_eq other x) names) (left-of (not (list_any (λ other. pointwise nat_eq other x) names)) (are_distinct names) d) in
    let none : list_any (λ other. pointwise nat_eq other x) (names ++ name ∷ []) ≡ false = list_any-append (λ other. pointwise nat_eq other x) names (name ∷ []) ∙ ap (λ (b : Bool). b || (pointwise nat_eq name x || false)) old ∙ ap (λ (b : Bool). b || false) (other-name x name apart) in
    both _ (are_distinct (names ++ name ∷ [])) (not-false _ none)
    (distinct-push names name behind (right-of (not (list_any (λ other. pointwise nat_eq other x) names)) (are_distinct names) d))
