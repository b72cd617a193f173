-- The blocks of labels, with one block more.
use Rattle.std.proofs.Common.{◌≡◌, ◌≢◌, ℕ, ◌+◌, ◌-◌, ◌<◌, inl, inr, List, [], ◌∷◌, ◌++◌, length, slice_index, refl, sym, ◌∙◌, ap, arith, length-append, length-set}
use Rattle.std.proofs.lemmas.Bool.{cases_eq, cases_lt}
use Rattle.std.proofs.lemmas.List.{get_or_append_left, get_or_push, get_or-set_same, get_or-set_other}
use Rattle.std.specs.Prelude.{slice_set}
use Rattle.lx_minimize.specs.Completion.{total, label_of}
use Rattle.lx_minimize.specs.Partitions.{AreBlocksByLabel}
use Rattle.lx_minimize.specs.declared.complete.Complete.{Complete}

module _ (m : Complete) (representatives blocks : List ℕ) (state : ℕ) (inside : state < total m) (are : AreBlocksByLabel m representatives blocks)
    (fresh : (b : ℕ) → b < length representatives → label_of m (slice_index representatives b) ≢ label_of m state) where
  abbrev more : List ℕ
  more = representatives ++ state ∷ []

  abbrev noted : List ℕ
  noted = slice_set blocks (label_of m state) (length representatives + 1)

  before : (b : ℕ) → b < length representatives → slice_index more b ≡ slice_index representatives b
  before b h = get_or_append_left representatives (state ∷ []) 0 b h

  last : (b : ℕ) → length representatives ≡ b → slice_index more b ≡ state
  last b h = get_or_push representatives state 0 b h

  own : (l : ℕ) → l ≡ label_of m state → slice_index noted l ≡ length representatives + 1
  own l e = ap (λ k. slice_index noted k) e ∙ get_or-set_same blocks (label_of m state) (length representatives + 1) 0 (are.long state inside)

  other : (l : ℕ) → l ≢ label_of m state → slice_index noted l ≡ slice_index blocks l
  other l ne = get_or-set_other blocks (label_of m state) l (length representatives + 1) 0 ne

  longer : length more ≡ length representatives + 1
  longer = length-append representatives (state ∷ [])

  pub block_more : AreBlocksByLabel m (representatives ++ state ∷ []) (slice_set blocks (label_of m state) (length representatives + 1))
  block_more = record {
    long = λ s h. let l = are.long s h in let same = length-set blocks (label_of m state) (length representatives + 1) in omega arith;
    known = λ b h. elim (cases_lt b (length representatives)) [
      | inl l ↦
          ap (λ s. slice_index noted (label_of m s)) (before b l) ∙ other (label_of m (slice_index representatives b)) (fresh b l) ∙ are.known b l
      | inr l ↦
          let at : length representatives ≡ b = omega (arith, longer) in
          ap (λ s. slice_index noted (label_of m s)) (last b at) ∙ own (label_of m state) refl ∙ ap (λ n. n + 1) at
    ];
    below = λ l. elim (cases_eq l (label_of m state)) [
      | inl e ↦ omega (arith, own l e, longer)
      | inr ne ↦ let b = are.below l in omega (arith, other l ne, longer)
    ];
    found = λ l some. elim (cases_eq l (label_of m state)) [
      | inl e ↦
          let at : length representatives ≡ slice_index noted l - 1 = omega (arith, own l e) in
          ap (λ s. label_of m s) (last (slice_index noted l - 1) at) ∙ sym e
      | inr ne ↦
          let same = other l ne in
          let known : slice_index blocks l ≢ 0 = λ zero. some (same ∙ zero) in
          let b = are.below l in
          let place : slice_index noted l - 1 ≡ slice_index blocks l - 1 = ap (λ n. n - 1) same in
          ap (λ k. label_of m (slice_index more k)) place
          ∙ ap (λ s. label_of m s) (before (slice_index blocks l - 1) (omega arith))
          ∙ are.found l known
    ];
  }
