use Rattle.std.proofs.Common.{ℕ, zero, suc, ◌≡◌, ◌<◌, ◌≤◌, inl, inr, true, false, List, [], ◌∷◌, length, Option, Some, None, refl, sym, ◌∙◌, ap, arith, get_or, nat_cmp, nat_eq}
use Rattle.std.proofs.lemmas.Bool.{cases_eq}
use Rattle.std.proofs.lemmas.Bool.Decides.{nat_tests}
use Rattle.std.proofs.Math.ListN.{length-set}
use Rattle.std.specs.BTreeMap.{is_at}
use Rattle.std.specs.Prelude.{slice_get, slice_set, unwrap_or}
use Rattle.std.proofs.lemmas.Bool.{both_ways, false_from_ne_true}
use Rattle.std.proofs.lemmas.Option.{unwrap_or-slice_get}
use Rattle.lx_piece.specs.declared.piece.Piece.{Piece}
use Rattle.lx_piece.specs.Kept.{Buffered, Advances, Delivers, IsReadySet, has_file, is_ready, is_ready_at, held_at}

-- a ready file has a buffer
pub ready_buffer : {C : Type 0} (o : Option (Buffered C)) → is_ready_at o ≡ true → (buffer : Buffered C) × (o ≡ Some buffer) × (is_ready buffer ≡ true)
ready_buffer None h = absurd (both_ways false refl h)
ready_buffer (Some buffer) h = (buffer, refl, h)

-- the lowest of the ready files delivers its next piece
pub lowest_delivers : {C : Type 0} (buffers : List (Buffered C)) (ready : List ℕ) (file : ℕ) (buffer advanced : Buffered C) (p : Piece C) → IsReadySet buffers ready → has_file ready file ≡ true → ((q : ℕ) → has_file ready q ≡ true → file ≤ q) → buffer ≡ get_or buffers file buffer → held_at buffer buffer.next ≡ Some p → Advances buffer advanced → Delivers buffers file p (slice_set buffers file advanced)
lowest_delivers buffers ready file buffer advanced p set has least at next moves =
    let r = ready_buffer (slice_get buffers file) (sym (set.each file) ∙ has) in
    let same : buffer ≡ r.0 = at ∙ (sym (unwrap_or-slice_get buffers file buffer) ∙ ap (λ o. unwrap_or o buffer) r.1) in
    record {
      buffer = buffer;
      advanced = advanced;
      there = r.1 ∙ ap (λ l. Some l) (sym same);
      next = next;
      lowest = λ g l. false_from_ne_true (is_ready_at (slice_get buffers g)) (λ h. let from = least g (set.each g ∙ h) in absurd (omega arith));
      moves = moves;
      after = refl;
    }

-- the element that was set, and the others
pub get_set_same : {X : Type 0} (xs : List X) (i : ℕ) (y : X) → i < length xs → slice_get (slice_set xs i y) i ≡ Some y
get_set_same [] i y l = absurd (omega arith)
get_set_same (x ∷ xs) zero y l = refl
get_set_same (x ∷ xs) (suc i) y l = get_set_same xs i y (omega arith)

pub get_set_other : {X : Type 0} (xs : List X) (i j : ℕ) (y : X) → (j ≡ i → ⊥) → slice_get (slice_set xs i y) j ≡ slice_get xs j
get_set_other [] i j y d = refl
get_set_other (x ∷ xs) zero zero y d = absurd (d refl)
get_set_other (x ∷ xs) zero (suc j) y d = refl
get_set_other (x ∷ xs) (suc i) zero y d = refl
get_set_other (x ∷ xs) (suc i) (suc j) y d = get_set_other xs i j y (λ e. d (ap suc e))

-- the meaning of `is_at`
pub at_number : (k n : ℕ) → is_at (nat_cmp k) n ≡ nat_eq n k
at_number k n = elim (cases_eq n k) [
  | inl e ↦ grind (arith, nat_tests)
  | inr d ↦ grind (arith, nat_tests)
]

-- the set is kept when one file's buffer changes
pub ready_set_with : {C : Type 0} (buffers : List (Buffered C)) (ready after : List ℕ) (file : ℕ) (advanced : Buffered C) → IsReadySet buffers ready → file < length buffers → has_file after file ≡ is_ready advanced → ((g : ℕ) → (g ≡ file → ⊥) → has_file after g ≡ has_file ready g) → IsReadySet (slice_set buffers file advanced) after
ready_set_with buffers ready after file advanced set within here others =
    record {
      few = rw length-set set.few;
      each = λ g. elim (cases_eq g file) [
        | inl e ↦ ap (has_file after) e ∙ here ∙ sym (ap (λ i. is_ready_at (slice_get (slice_set buffers file advanced) i)) e ∙ ap is_ready_at (get_set_same buffers file advanced within))
        | inr d ↦ others g d ∙ set.each g ∙ sym (ap is_ready_at (get_set_other buffers file g advanced d))
      ];
    }
