-- Members of a list with one more at its end.
use Rattle.std.proofs.Common.{◌≡◌, ℕ, zero, suc, ◌+◌, ◌<◌, ◌≤◌, ◌⊎◌, inl, inr, Bool, true, List, [], ◌∷◌, ◌++◌, length, get_or, take, sym, ◌∙◌, subst, arith}
use Rattle.std.specs.Prelude.{Contains}
use Rattle.std.proofs.lemmas.Bool.{cases_lt}
use Rattle.lx_minimize.specs.Completion.{total, step_of, IsComplete}
use Rattle.lx_minimize.specs.Partitions.{flag}
use Rattle.lx_minimize.specs.Sources.{AddsBelow, AreSourcesOf, AreStatesBelow, ContainPreimage}
use Rattle.lx_minimize.specs.declared.complete.Complete.{Complete}
use Rattle.lx_automaton.proofs.Members.{contains_nil, contains_head, contains_tail, contains_cases}

pub push_keeps : (xs : List ℕ) (y q : ℕ) → Contains xs q → Contains (xs ++ y ∷ []) q
push_keeps [] y q h = absurd (contains_nil q h)
push_keeps (x ∷ xs) y q h = elim (contains_cases x q xs h) [
  | inl e ↦ subst (λ z. Contains (x ∷ (xs ++ y ∷ [])) z) e (contains_head x (xs ++ y ∷ []))
  | inr c ↦ contains_tail x q (xs ++ y ∷ []) (push_keeps xs y q c)
]

pub push_has : (xs : List ℕ) (y : ℕ) → Contains (xs ++ y ∷ []) y
push_has [] y = contains_head y []
push_has (x ∷ xs) y = contains_tail x y (xs ++ y ∷ []) (push_has xs y)

pub push_cases : (xs : List ℕ) (y q : ℕ) → Contains (xs ++ y ∷ []) q → Contains xs q ⊎ (y ≡ q)
push_cases [] y q h = elim (contains_cases y q [] h) [ inl e ↦ inr e | inr c ↦ absurd (contains_nil q c) ]
push_cases (x ∷ xs) y q h = elim (contains_cases x q (xs ++ y ∷ []) h) [
  | inl e ↦ inl (subst (λ z. Contains (x ∷ xs) z) e (contains_head x xs))
  | inr c ↦ elim (push_cases xs y q c) [ inl d ↦ inl (contains_tail x q xs d) | inr e ↦ inr e ]
]

pub take_cases : (xs : List ℕ) (i q : ℕ) → Contains (take (suc i) xs) q → Contains (take i xs) q ⊎ ((i < length xs) × (get_or xs i 0 ≡ q))
take_cases [] i q h = absurd (contains_nil q h)
take_cases (x ∷ xs) zero q h = elim (contains_cases x q (take zero xs) h) [ inl e ↦ inr ((omega arith), e) | inr c ↦ inl c ]
take_cases (x ∷ xs) (suc i) q h = elim (contains_cases x q (take (suc i) xs) h) [
  | inl e ↦ inl (subst (λ z. Contains (x ∷ take i xs) z) e (contains_head x (take i xs)))
  | inr c ↦ elim (take_cases xs i q c) [ inl d ↦ inl (contains_tail x q (take i xs) d) | inr e ↦ inr ((let l = e.0 in omega arith), e.1) ]
]

-- states that are added if they are below the count
pub adds_nothing : (states old : List ℕ) (count : ℕ) → AddsBelow (take 0 states) count old old
adds_nothing states old count = record { below = λ f s h. f s h; kept = λ s h. h; added = λ s l h. absurd (contains_nil s h) }

pub adds_push : (states old new : List ℕ) (i count y : ℕ) → AddsBelow (take i states) count old new → get_or states i 0 ≡ y → y < count → AddsBelow (take (suc i) states) count old (new ++ y ∷ [])
adds_push states old new i count y adds e less = record {
  below = λ f s h. elim (push_cases new y s h) [ inl k ↦ adds.below f s k | inr g ↦ omega arith ];
  kept = λ s h. push_keeps new y s (adds.kept s h);
  added = λ s l h. elim (take_cases states i s h) [
    | inl k ↦ push_keeps new y s (adds.added s l k)
    | inr k ↦ let g : y ≡ s = sym e ∙ k.1 in subst (λ z. Contains (new ++ y ∷ []) z) g (push_has new y)
  ];
}

pub adds_skip : (states old new : List ℕ) (i count : ℕ) → AddsBelow (take i states) count old new → count ≤ get_or states i 0 → AddsBelow (take (suc i) states) count old new
adds_skip states old new i count adds past = record {
  below = adds.below;
  kept = adds.kept;
  added = λ s l h. elim (take_cases states i s h) [ inl k ↦ adds.added s l k | inr k ↦ let e = k.1 in absurd (omega arith) ];
}

-- one member more
pub sources_more : (m : Complete) (members old new listed : List ℕ) (i class : ℕ) → AreSourcesOf m (take i members) class old → AddsBelow listed (total m) old new →
    ((s : ℕ) → s < total m → get_or members i 0 ≡ step_of m s class → Contains listed s) → AreSourcesOf m (take (suc i) members) class new
sources_more m members old new listed i class are adds own = record {
  below = adds.below are.below;
  all = λ s l h. elim (take_cases members i (step_of m s class) h) [ inl k ↦ adds.kept s (are.all s l k) | inr k ↦ adds.added s l (own s l k.1) ];
}

pub contain_preimage : (m : Complete) (inside : List Bool) (members states : List ℕ) (class : ℕ) → IsComplete m → class < m.width → AreSourcesOf m members class states →
    ((s : ℕ) → s < total m → flag inside s ≡ true → Contains members s) → ContainPreimage m inside class states
contain_preimage m inside members states class complete narrow are within = record {
  narrow = narrow;
  below = are.below;
  all = λ s l target. are.all s l (within (step_of m s class) (complete.closed s class l narrow) target);
}

pub all_contain_preimage : (m : Complete) (inside : List Bool) (states : List ℕ) (class count : ℕ) → class < m.width → count ≡ total m → AreStatesBelow count states → ContainPreimage m inside class states
all_contain_preimage m inside states class count narrow e are = record {
  narrow = narrow;
  below = λ s h. let l = are.below s h in omega arith;
  all = λ s l target. are.all s (omega arith);
}

-- a fact for all below n, and for n
pub below_more : (P : ℕ → Type 0) (n : ℕ) → ((k : ℕ) → k < n → P k) → P n → (k : ℕ) → k < n + 1 → P k
below_more P n before here k h = elim (cases_lt k n) [
  | inl l ↦ before k l
  | inr l ↦ let e : n ≡ k = omega arith in subst P e here
]
