-- Laws of the pieces of a file.
use Rattle.std.proofs.Common.{ℕ, zero, suc, ◌≡◌, ◌+◌, ◌*◌, ◌<◌, ◌≤◌, inl, inr, Bool, true, false, ◌&&◌, ◌||◌, ◌==◌, if◌then◌else◌, List, [], ◌∷◌, ◌++◌, length, take, drop, max, refl, sym, ◌∙◌, ap, arith, append-nil}
use Rattle.std.specs.List.{list_any}
use Rattle.std.specs.Int.{div_ceil}
use Rattle.std.proofs.lemmas.Bool.{both_ways, eq-eqb, ne_eqb, or_right, or_from, cases_lt}
use Rattle.std.proofs.lemmas.List.{take-append-drop, take_all}
use Rattle.std.proofs.lemmas.Grind.{div_ceil_times, flat_map-append}
use Rattle.std.proofs.lemmas.List.Folds.{list_any-append}
use Rattle.std.proofs.Math.Bool.{or-false}
use Rattle.std.proofs.Math.Seq.{take-add}
use Rattle.std.proofs.Math.Nat.{suc-mul, mul-le-mul_right, zero-mul}
use Rattle.lx_scan.specs.declared.item.Item.{Item}
use Rattle.lx_piece.specs.declared.piece.Mark.TheVariants.{More, Whole, Cut}
use Rattle.lx_piece.specs.Plans.{Planned, is_cut, items_of}
use Rattle.lx_piece.specs.Pieces.{ItemPiece, is_closing, is_closing_mark, is_cut_mark, is_cut_short, piece_at, pieces_of, piece_count, pieces_to, contents, part, IsPrefix, TakesInOrder}

-- a test of a list with one element more
any_last : {X : Type 0} (test : X → Bool) (xs : List X) (x : X) → list_any test (xs ++ x ∷ []) ≡ (list_any test xs || test x)
any_last test xs x = list_any-append test xs (x ∷ []) ∙ ap (λ b. list_any test xs || b) (or-false (test x))

-- the first pieces hold the first items
pub contents_to : (plan : Planned) (file count : ℕ) → contents (pieces_to plan file count) ≡ take (count * plan.per_piece) (items_of plan file)
contents_to plan file zero = rw zero-mul refl
contents_to plan file (suc count) =
    flat_map-append (λ (piece : ItemPiece). piece.items) (pieces_to plan file count) (piece_at plan file count ∷ [])
    ∙ ap (λ items. items ++ (part plan.per_piece (items_of plan file) count ++ [])) (contents_to plan file count)
    ∙ ap (λ items. take (count * plan.per_piece) (items_of plan file) ++ items) (append-nil (part plan.per_piece (items_of plan file) count))
    ∙ sym (ap (λ n. take n (items_of plan file)) (suc-mul count plan.per_piece) ∙ take-add (count * plan.per_piece) plan.per_piece (items_of plan file))

pub prefix_to : (plan : Planned) (file count : ℕ) → IsPrefix (contents (pieces_to plan file count)) (items_of plan file)
prefix_to plan file count =
    (drop (count * plan.per_piece) (items_of plan file), ap (λ items. items ++ drop (count * plan.per_piece) (items_of plan file)) (contents_to plan file count) ∙ take-append-drop (count * plan.per_piece) (items_of plan file))

-- a mark is a last piece's if and only if the piece is the last
pub closing_mark : (last cut : Bool) → is_closing_mark (if last then (if cut then Cut else Whole) else More) ≡ last
closing_mark false cut = refl
closing_mark true false = refl
closing_mark true true = refl

pub marked_last : (plan : Planned) (file number : ℕ) → is_closing (piece_at plan file number) ≡ (number + 1 == pieces_of plan file)
marked_last plan file number = closing_mark (number + 1 == pieces_of plan file) (is_cut plan file)

-- it is Cut if the file's reading failed, too
cut_mark : (last cut : Bool) → is_cut_mark (if last then (if cut then Cut else Whole) else More) ≡ (last && cut)
cut_mark false cut = refl
cut_mark true false = refl
cut_mark true true = refl

pub marked_cut : (plan : Planned) (file number : ℕ) → is_cut_short (piece_at plan file number) ≡ ((number + 1 == pieces_of plan file) && is_cut plan file)
marked_cut plan file number = cut_mark (number + 1 == pieces_of plan file) (is_cut plan file)

-- no piece before the last one is marked
pub open_below : (plan : Planned) (file count : ℕ) → count < pieces_of plan file → list_any is_closing (pieces_to plan file count) ≡ false
open_below plan file zero l = refl
open_below plan file (suc count) l =
    any_last is_closing (pieces_to plan file count) (piece_at plan file count)
    ∙ or_from (list_any is_closing (pieces_to plan file count)) (is_closing (piece_at plan file count)) (open_below plan file count (omega arith))
    (marked_last plan file count ∙ ne_eqb (count + 1) (pieces_of plan file) (λ e. absurd (omega arith)))

-- the last one is
pub closed_at : (plan : Planned) (file count : ℕ) → count ≡ pieces_of plan file → list_any is_closing (pieces_to plan file count) ≡ true
closed_at plan file zero e = absurd (omega arith)
closed_at plan file (suc count) e =
    any_last is_closing (pieces_to plan file count) (piece_at plan file count)
    ∙ or_right (list_any is_closing (pieces_to plan file count)) (is_closing (piece_at plan file count)) (marked_last plan file count ∙ eq-eqb (count + 1) (pieces_of plan file) (omega arith))

-- none before the last one is marked Cut
uncut_below : (plan : Planned) (file count : ℕ) → count < pieces_of plan file → list_any is_cut_short (pieces_to plan file count) ≡ false
uncut_below plan file zero l = refl
uncut_below plan file (suc count) l =
    any_last is_cut_short (pieces_to plan file count) (piece_at plan file count)
    ∙ or_from (list_any is_cut_short (pieces_to plan file count)) (is_cut_short (piece_at plan file count)) (uncut_below plan file count (omega arith))
    (marked_cut plan file count ∙ ap (λ b. b && is_cut plan file) (ne_eqb (count + 1) (pieces_of plan file) (λ e. absurd (omega arith))))

-- the last one is marked Cut if and only if the file's reading failed
pub cut_at : (plan : Planned) (file count : ℕ) → count ≡ pieces_of plan file → list_any is_cut_short (pieces_to plan file count) ≡ is_cut plan file
cut_at plan file zero e = absurd (omega arith)
cut_at plan file (suc count) e =
    any_last is_cut_short (pieces_to plan file count) (piece_at plan file count)
    ∙ ap (λ b. b || is_cut_short (piece_at plan file count)) (uncut_below plan file count (omega arith))
    ∙ marked_cut plan file count
    ∙ ap (λ b. b && is_cut plan file) (eq-eqb (count + 1) (pieces_of plan file) (omega arith))

-- all pieces hold all items
pub pieces_hold : (per_piece : ℕ) (items : List Item) → 0 < per_piece → length items ≤ piece_count per_piece items * per_piece
pieces_hold per_piece items some =
    let whole = (div_ceil_times (length items) per_piece some).0 in
    let more = mul-le-mul_right per_piece (let l : div_ceil (length items) per_piece ≤ max 1 (div_ceil (length items) per_piece) = omega arith in l) in
    omega arith

pub whole_at : (plan : Planned) (file count : ℕ) → 0 < plan.per_piece → count ≡ pieces_of plan file → contents (pieces_to plan file count) ≡ items_of plan file
whole_at plan file count some e =
    contents_to plan file count
    ∙ ap (λ n. take (n * plan.per_piece) (items_of plan file)) e
    ∙ take_all (pieces_of plan file * plan.per_piece) (items_of plan file) (pieces_hold plan.per_piece (items_of plan file) some)

pub takes_in_order : (plan : Planned) (file count : ℕ) → 0 < plan.per_piece → count ≤ pieces_of plan file → TakesInOrder plan file count
takes_in_order plan file count some within =
    let all : list_any is_closing (pieces_to plan file count) ≡ true → count ≡ pieces_of plan file = λ closed.
    elim (cases_lt count (pieces_of plan file)) [
      | inl below ↦ absurd (both_ways (list_any is_closing (pieces_to plan file count)) (open_below plan file count below) closed)
      | inr above ↦ omega arith
    ] in
    record {
      prefix = prefix_to plan file count;
      closed = (all, closed_at plan file count);
      whole = λ closed. whole_at plan file count some (all closed);
      cut = λ closed. cut_at plan file count (all closed);
    }
