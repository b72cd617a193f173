-- The meaning of a name, definition by definition.
use Rattle.std.proofs.Common.{◌≡◌, ℕ, zero, suc, ◌+◌, ◌-◌, ◌<◌, ◌≤◌, ◌⊎◌, inl, inr, List, length, subst, arith, Some}
use Rattle.std.specs.Prelude.{slice_get}
use Rattle.std.proofs.lemmas.Bool.{cases_lt}
use Rattle.std.proofs.lemmas.Option.{slice_get_within}
use Rattle.lx_ere.specs.Matching.{Matches}
use Rattle.lx_rules.specs.Plain.{PlainDefinition}
use Rattle.lx_rules.specs.Names.{DefinedMatches, NameMatches}

-- the word is in the language that one of the first k definitions gives to this name
pub record DefinedBelow (inner : List ℕ → List ℕ → Type 0) (definitions : List PlainDefinition) (name : List ℕ) (k : ℕ) (word : List ℕ) : Type 0 where
  pub place : ℕ
  pub below : place < k
  pub definition : PlainDefinition
  pub at : slice_get definitions place ≡ Some definition
  pub is : definition.name ≡ name
  pub matches : Matches inner definition.tree word

pub below_none : (inner : List ℕ → List ℕ → Type 0) (definitions : List PlainDefinition) (name word : List ℕ) → DefinedBelow inner definitions name 0 word → ⊥
below_none inner definitions name word d = let h = d.below in absurd (omega arith)

-- the definition at k has another name
pub below_other : (inner : List ℕ → List ℕ → Type 0) (definitions : List PlainDefinition) (name word : List ℕ) (k : ℕ) (here : PlainDefinition) → slice_get definitions k ≡ Some here → (here.name ≡ name → ⊥) →
    DefinedBelow inner definitions name (k + 1) word → DefinedBelow inner definitions name k word
below_other inner definitions name word k here at never d = elim (cases_lt (d.place) k) [
  | inl less ↦ record { place = d.place; below = less; definition = d.definition; at = d.at; is = d.is; matches = d.matches }
  | inr more ↦
      let e : d.place ≡ k = (let h = d.below in omega arith) in
      let f : slice_get definitions k ≡ Some (d.definition) = subst (λ (i : ℕ). slice_get definitions i ≡ Some (d.definition)) e (d.at) in
      let g : d.definition ≡ here = cc in
      absurd (never (subst (λ (x : PlainDefinition). x.name ≡ name) g (d.is)))
]

pub below_still : (inner : List ℕ → List ℕ → Type 0) (definitions : List PlainDefinition) (name word : List ℕ) (k : ℕ) → DefinedBelow inner definitions name k word → DefinedBelow inner definitions name (k + 1) word
below_still inner definitions name word k d = record { place = d.place; below = (let h = d.below in omega arith); definition = d.definition; at = d.at; is = d.is; matches = d.matches }

-- the definition at k has the name
pub below_more : (inner : List ℕ → List ℕ → Type 0) (definitions : List PlainDefinition) (name word : List ℕ) (k : ℕ) (here : PlainDefinition) → slice_get definitions k ≡ Some here → here.name ≡ name →
    DefinedBelow inner definitions name k word ⊎ Matches inner here.tree word → DefinedBelow inner definitions name (k + 1) word
below_more inner definitions name word k here at is h = elim h [
  | inl d ↦ below_still inner definitions name word k d
  | inr m ↦ record { place = k; below = omega arith; definition = here; at = at; is = is; matches = m }
]

pub below_fewer : (inner : List ℕ → List ℕ → Type 0) (definitions : List PlainDefinition) (name word : List ℕ) (k : ℕ) (here : PlainDefinition) → slice_get definitions k ≡ Some here →
    DefinedBelow inner definitions name (k + 1) word → DefinedBelow inner definitions name k word ⊎ Matches inner here.tree word
below_fewer inner definitions name word k here at d = elim (cases_lt (d.place) k) [
  | inl less ↦ inl (record { place = d.place; below = less; definition = d.definition; at = d.at; is = d.is; matches = d.matches })
  | inr more ↦
      let e : d.place ≡ k = (let h = d.below in omega arith) in
      let f : slice_get definitions k ≡ Some (d.definition) = subst (λ (i : ℕ). slice_get definitions i ≡ Some (d.definition)) e (d.at) in
      let g : d.definition ≡ here = cc in
      inr (subst (λ (x : PlainDefinition). Matches inner x.tree word) g (d.matches))
]

-- all definitions together, with one level of names fewer
pub name_into : (definitions : List PlainDefinition) (depth : ℕ) (name word : List ℕ) (k : ℕ) → 0 < depth → DefinedBelow (NameMatches definitions (depth - 1)) definitions name k word → NameMatches definitions depth name word
name_into definitions zero name word k h d = absurd (omega (arith, h))
name_into definitions (suc n) name word k h d =
    let e : suc n - 1 ≡ n = omega arith in
    (d.definition, record { place = d.place; at = d.at; is = d.is }, subst (λ (m : ℕ). Matches (NameMatches definitions m) d.definition.tree word) e (d.matches))

pub name_from : (definitions : List PlainDefinition) (depth : ℕ) (name word : List ℕ) (k : ℕ) → 0 < depth → length definitions ≤ k → NameMatches definitions depth name word → DefinedBelow (NameMatches definitions (depth - 1)) definitions name k word
name_from definitions zero name word k h long m = absurd m
name_from definitions (suc n) name word k h long m =
    let e : n ≡ suc n - 1 = omega arith in
    let found : DefinedMatches (NameMatches definitions n) definitions name word = m in
    record {
      place = found.1.place;
      definition = found.0;
      at = found.1.at;
      is = found.1.is;
      below = let g : found.1.place < length definitions = slice_get_within definitions (found.1.place) (found.0) (found.1.at) in omega arith;
      matches = subst (λ (m : ℕ). Matches (NameMatches definitions m) (found.0).tree word) e (found.2);
    }

pub name_never : (definitions : List PlainDefinition) (depth : ℕ) (name word : List ℕ) → depth ≡ 0 → NameMatches definitions depth name word → ⊥
name_never definitions zero name word e m = m
name_never definitions (suc n) name word e m = absurd (omega (arith, e))
