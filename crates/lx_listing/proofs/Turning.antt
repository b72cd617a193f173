-- The lines of a piece are those between its turn and the next one.
use Rattle.std.proofs.Common.{ℕ, ◌≡◌, ◌+◌, ◌<◌, suc, ◌==◌, if◌then◌else◌, inl, inr, Bool, true, false, List, ◌++◌, refl, sym, ◌∙◌, ap, subst, arith, add-one, append_assoc, append-nil}
use Rattle.std.proofs.lemmas.Bool.{cases_eq, eq-eqb, ne_eqb}
use Rattle.lx_piece.specs.declared.piece.Piece.{Piece}
use Rattle.lx_piece.specs.declared.reader.ReaderFault.{ReaderFault}
use Rattle.lx_piece.specs.Pieces.{IsPrefix, ItemPiece, Making, bare, is_closing, piece_at, piece_by, pieces_of, pieces_to}
use Rattle.lx_piece.specs.PieceLaws.{marked_last}
use Rattle.lx_piece.specs.Plans.{Planned, IsPlan, files_of}
use Rattle.lx_piece.specs.Turns.{HasTurn, Turn, turn_after}
use Rattle.lx_line.specs.Styles.{HasWholeLines}
use Rattle.lx_listing.specs.Lines.{piece_lines_by}
use Rattle.lx_listing.specs.Listings.{AreWhole, IsTurnOf, Listed, all_lines, lines_until, listing_to_by, plainly, taken_lines_by}
use Rattle.lx_listing.specs.ListingLaws.{lines_one, whole_lines}
use Rattle.lx_listing.specs.AppendingLaws.{prefix_behind, prefix_then}
use Rattle.lx_listing.specs.Parts.{WrotePart}
use Rattle.lx_listing.specs.Printing.{PrintsPart, PrintsTo, shown_lines}
use Rattle.lx_listing.specs.PrintingLaws.{turn_begins}
use Rattle.lx_listing.specs.Shown.{shown}
use Rattle.lx_listing.proofs.WholeLines.{piece_whole}

-- the turn after one, if its piece is the last one of its file or not
abbrev turn_by : Turn → Bool → Turn
turn_by turn last = if last then record { file = turn.file + 1; number = 0 } else record { file = turn.file; number = turn.number + 1 }

-- the contents of pieces, and the lines of a piece: those that the plan's piece has in the style
pub record Carries {C : Type 0} (made : Making C) (listed : Listed) (lines : Piece C → List ℕ) : Type 0 where
  pub of : (file number : ℕ) → lines (piece_by made listed.plan file number) ≡ piece_lines_by listed.style listed.plan file (piece_at listed.plan file number)

pub shown_carries : (plan : Planned) → Carries shown (plainly plan) shown_lines
shown_carries plan = record { of = λ file number. refl }

pub list_carries : (listed : Listed) → Carries bare listed (λ (p : ItemPiece). piece_lines_by listed.style listed.plan p.file p)
list_carries listed = record { of = λ file number. refl }

pub closing_is : {C : Type 0} (made : Making C) (plan : Planned) (turn : Turn) (p : Piece C) → HasTurn made plan turn p → is_closing p ≡ (turn.number + 1 == pieces_of plan turn.file)
closing_is made plan turn p has =
    ap (λ (q : Piece _). is_closing q) has.piece.whole
    ∙ ap (λ (n : ℕ). is_closing (piece_by made plan n p.number)) has.file
    ∙ ap (λ (n : ℕ). is_closing (piece_by made plan turn.file n)) has.number
    ∙ marked_last plan turn.file turn.number

pub turn_closed : {C : Type 0} (made : Making C) (plan : Planned) (turn : Turn) (p : Piece C) → HasTurn made plan turn p → is_closing p ≡ true → record { file = turn.file + 1; number = 0 } ≡ turn_after plan turn
turn_closed made plan turn p has e = sym (ap (λ last. turn_by turn last) (sym (closing_is made plan turn p has) ∙ e))

pub turn_open : {C : Type 0} (made : Making C) (plan : Planned) (turn : Turn) (p : Piece C) → HasTurn made plan turn p → is_closing p ≡ false → record { file = turn.file; number = turn.number + 1 } ≡ turn_after plan turn
turn_open made plan turn p has e = sym (ap (λ last. turn_by turn last) (sym (closing_is made plan turn p has) ∙ e))

-- its lines
lines_are : {C : Type 0} (made : Making C) (listed : Listed) (lines : Piece C → List ℕ) (turn : Turn) (p : Piece C) → Carries made listed lines → HasTurn made listed.plan turn p → lines p ≡ piece_lines_by listed.style listed.plan turn.file (piece_at listed.plan turn.file turn.number)
lines_are made listed lines turn p carries has =
    ap (λ (q : Piece _). lines q) has.piece.whole
    ∙ ap (λ (n : ℕ). lines (piece_by made listed.plan n p.number)) has.file
    ∙ ap (λ (n : ℕ). lines (piece_by made listed.plan turn.file n)) has.number
    ∙ carries.of turn.file turn.number

-- its file is in the plan
pub file_within : {C : Type 0} (made : Making C) (plan : Planned) (turn : Turn) (p : Piece C) → HasTurn made plan turn p → turn.file < files_of plan
file_within made plan turn p has = subst (λ (n : ℕ). n < files_of plan) has.file has.piece.file

number_within : {C : Type 0} (made : Making C) (plan : Planned) (turn : Turn) (p : Piece C) → HasTurn made plan turn p → turn.number < pieces_of plan turn.file
number_within made plan turn p has = subst (λ (n : ℕ). turn.number < pieces_of plan n) has.file (subst (λ (n : ℕ). n < pieces_of plan p.file) has.number has.piece.number)

lines_next : (listed : Listed) (turn : Turn) → lines_until listed turn ++ piece_lines_by listed.style listed.plan turn.file (piece_at listed.plan turn.file turn.number) ≡ listing_to_by listed.style listed.plan turn.file ++ taken_lines_by listed.style listed.plan turn.file (suc turn.number)
lines_next listed turn =
    let style = listed.style in
    let plan = listed.plan in
    append_assoc (listing_to_by style plan turn.file) (taken_lines_by style plan turn.file turn.number) (piece_lines_by style plan turn.file (piece_at plan turn.file turn.number))
    ∙ ap (λ bytes. listing_to_by style plan turn.file ++ bytes) (sym (lines_one style plan turn.file (pieces_to plan turn.file turn.number) (piece_at plan turn.file turn.number)))

due_next : {C : Type 0} (made : Making C) (listed : Listed) (lines : Piece C → List ℕ) (turn : Turn) (p : Piece C) → Carries made listed lines → IsPlan listed.plan → HasTurn made listed.plan turn p → lines_until listed turn ++ lines p ≡ lines_until listed (turn_after listed.plan turn)
due_next made listed lines turn p carries is has =
    let style = listed.style in
    let plan = listed.plan in
    let within = number_within made plan turn p has in
    ap (λ bytes. lines_until listed turn ++ bytes) (lines_are made listed lines turn p carries has)
    ∙ lines_next listed turn
    ∙ elim (cases_eq (turn.number + 1) (pieces_of plan turn.file)) [
      | inl last ↦
          ap (λ bytes. listing_to_by style plan turn.file ++ bytes) (whole_lines style plan turn.file (suc turn.number) is.some_items (omega arith))
          ∙ ap (λ (n : ℕ). listing_to_by style plan n) (sym (add-one turn.file))
          ∙ sym (append-nil (listing_to_by style plan (turn.file + 1)))
          ∙ ap (λ last. lines_until listed (turn_by turn last)) (sym (eq-eqb (turn.number + 1) (pieces_of plan turn.file) last))
      | inr more ↦
          ap (λ (n : ℕ). listing_to_by style plan turn.file ++ taken_lines_by style plan turn.file n) (sym (add-one turn.number))
          ∙ ap (λ last. lines_until listed (turn_by turn last)) (sym (ne_eqb (turn.number + 1) (pieces_of plan turn.file) more))
    ]

-- the next one is a turn of the plan too
after_is : {C : Type 0} (made : Making C) (plan : Planned) (turn : Turn) (p : Piece C) → IsPlan plan → HasTurn made plan turn p → IsTurnOf plan (turn_after plan turn)
after_is made plan turn p is has =
    let within = file_within made plan turn p has in
    elim (cases_eq (turn.number + 1) (pieces_of plan turn.file)) [
      | inl last ↦
          subst (λ last. IsTurnOf plan (turn_by turn last)) (sym (eq-eqb (turn.number + 1) (pieces_of plan turn.file) last))
          (record { plan_is = is; within = omega arith; first = λ _. refl })
      | inr more ↦
          subst (λ last. IsTurnOf plan (turn_by turn last)) (sym (ne_eqb (turn.number + 1) (pieces_of plan turn.file) more))
          (record { plan_is = is; within = omega arith; first = λ e. absurd (omega arith) })
    ]

-- a printer that took a piece
pub prints_piece : {S C : Type 0} (wrote : S → List ℕ → S → Type 0) (made : Making C) (listed : Listed) (whole : HasWholeLines listed.style) (lines : Piece C → List ℕ) (turn after : Turn) (old new : S) (p : Piece C) → Carries made listed lines → IsPlan listed.plan → HasTurn made listed.plan turn p → after ≡ turn_after listed.plan turn → wrote old (lines p) new → PrintsTo wrote (record { listed = listed; turn = turn; sink = old }) (record { listed = listed; turn = after; sink = new })
prints_piece wrote made listed whole lines turn after old new p carries is has next w =
    record {
      same = refl;
      bytes = lines p;
      written = w;
      whole = subst AreWhole (sym (lines_are made listed lines turn p carries has)) (piece_whole listed.style whole listed.plan turn.file (piece_at listed.plan turn.file turn.number));
      after = λ _. subst (λ (t : Turn). IsTurnOf listed.plan t) (sym next) (after_is made listed.plan turn p is has);
      due = λ _. due_next made listed lines turn p carries is has ∙ ap (λ (t : Turn). lines_until listed t) (sym next);
    }

-- one that failed in its lines
pub prints_in_part : {S C : Type 0} (wrote : S → List ℕ → S → Type 0) (made : Making C) (listed : Listed) (lines : Piece C → List ℕ) (turn : Turn) (old new : S) (p : Piece C) (fault : ReaderFault) → Carries made listed lines → IsPlan listed.plan → HasTurn made listed.plan turn p → WrotePart wrote old fault (lines p) new → PrintsPart wrote (record { listed = listed; turn = turn; sink = old }) fault (record { listed = listed; turn = turn; sink = new })
prints_in_part wrote made listed lines turn old new p fault carries is has part =
    record {
      bytes = part.front;
      written = part.written;
      whole = part.whole;
      prefix = λ _.
          prefix_then (lines_until listed turn ++ part.front) (lines_until listed turn ++ lines p) (all_lines listed)
          (prefix_behind (lines_until listed turn) part.front (lines p) part.prefix)
          (subst (λ (bs : List ℕ). IsPrefix bs (all_lines listed)) (sym (due_next made listed lines turn p carries is has))
          (turn_begins listed (turn_after listed.plan turn) (after_is made listed.plan turn p is has)));
    }
