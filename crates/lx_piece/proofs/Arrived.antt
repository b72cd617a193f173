use Rattle.std.proofs.Common.{ℕ, zero, suc, ◌≡◌, ◌+◌, ◌<◌, ◌≤◌, ◌⊎◌, inl, inr, true, false, ◌&&◌, List, [], ◌∷◌, Option, None, refl, sym, ◌∙◌, ap, subst, arith, nat_eq, nat_lt}
use Rattle.std.specs.Prelude.{slice_index, All, Contains}
use Rattle.std.specs.List.{list_any}
use Rattle.std.proofs.lemmas.Bool.{both_ways, and_parts, and_from, cases_lt, cases_Bool, eqb-true, eq-eqb, ne_eqb, ltb-true, lt-ltb, or_right, or_from, not_from_true, false_from_ne_true}
use Rattle.std.proofs.lemmas.List.Elements.{All-nil, All-head, All-tail, All-contains}
use Rattle.lx_piece.specs.declared.piece.Piece.{Piece}
use Rattle.lx_piece.specs.declared.reply.Why.{Why}
use Rattle.lx_piece.specs.Plans.{Planned, files_of}
use Rattle.lx_piece.specs.Pieces.{Making, is_closing, top_number, IsPieceBy, piece_by, pieces_of}
use Rattle.lx_piece.specs.PieceLaws.{marked_last}
use Rattle.lx_piece.specs.Arrivals.{shape_of, IsHonestBy, AreHonestBy, accepted_behind, accepted_of, with_arrival, joined, cause_against, has_piece, is_numbered, closes_before, is_later}
use Rattle.lx_piece.specs.Relayed.{AllDelivered, AreAllAmongBy}
use Rattle.lx_piece.proofs.AnyOf.{any_last, any_of}
use Rattle.lx_piece.proofs.Deliveries.{with_planned, has_more}

-- a closing piece of the plan is the last of its file
closing_number : {C : Type 0} (made : Making C) (plan : Planned) (p : Piece C) → IsPieceBy made plan p → is_closing p ≡ true → p.number + 1 ≡ pieces_of plan p.file
closing_number made plan p is closing = eqb-true (p.number + 1) (pieces_of plan p.file) (sym (marked_last plan p.file p.number) ∙ sym (ap is_closing is.whole) ∙ closing)

-- among pieces of the plan, none closes the file before one of its pieces
none_before : {C : Type 0} (made : Making C) (plan : Planned) (accepted : List (Piece C)) (p : Piece C) → All (IsPieceBy made plan) accepted → IsPieceBy made plan p → list_any (closes_before p) accepted ≡ false
none_before made plan accepted p all is = false_from_ne_true (list_any (closes_before p) accepted) (λ h.
    let found = any_of (IsPieceBy made plan) (closes_before p) accepted all h in
    let q = found.0 in
    let a = and_parts (is_closing q) (nat_eq q.file p.file && nat_lt q.number p.number) found.2 in
    let b = and_parts (nat_eq q.file p.file) (nat_lt q.number p.number) a.1 in
    let last = subst (λ (f : ℕ). q.number + 1 ≡ pieces_of plan f) (eqb-true q.file p.file b.0) (closing_number made plan q found.1 a.0) in
    let below = ltb-true q.number p.number b.1 in
    let number = is.number in
    absurd (omega arith))

-- and none comes after the closing one
none_later : {C : Type 0} (made : Making C) (plan : Planned) (accepted : List (Piece C)) (p : Piece C) → All (IsPieceBy made plan) accepted → IsPieceBy made plan p → (is_closing p && list_any (is_later p) accepted) ≡ false
none_later made plan accepted p all is = false_from_ne_true (is_closing p && list_any (is_later p) accepted) (λ h.
    let c = and_parts (is_closing p) (list_any (is_later p) accepted) h in
    let found = any_of (IsPieceBy made plan) (is_later p) accepted all c.1 in
    let q = found.0 in
    let b = and_parts (nat_eq q.file p.file) (nat_lt p.number q.number) found.2 in
    let last = closing_number made plan p is c.0 in
    let below = ltb-true p.number q.number b.1 in
    let number = subst (λ (f : ℕ). q.number < pieces_of plan f) (eqb-true q.file p.file b.0) found.1.number in
    absurd (omega arith))

-- so a piece of the plan is accepted if it wasn't before
accepted_new : {C : Type 0} (made : Making C) (plan : Planned) (accepted : List (Piece C)) (p : Piece C) → All (IsPieceBy made plan) accepted → IsPieceBy made plan p → has_piece p.file p.number accepted ≡ false → cause_against (shape_of plan) accepted p ≡ None
accepted_new {C} made plan accepted p all is new =
    let run = not_from_true (nat_eq p.run plan.run) (eq-eqb p.run plan.run (ap (λ (q : Piece C). q.run) is.whole)) in
    let file = not_from_true (nat_lt p.file (files_of plan)) (lt-ltb p.file (files_of plan) is.file) in
    let countable = is.countable in
    let after = or_from (nat_eq p.number top_number) (list_any (closes_before p) accepted) (ne_eqb p.number top_number (λ e. absurd (omega arith))) (none_before made plan accepted p all is) in
    let later = none_later made plan accepted p all is in
    rw (run, file, new, after, later) refl

-- once it has come it was accepted, then or before
accepted_then : {C : Type 0} (made : Making C) (plan : Planned) (accepted : List (Piece C)) (p : Piece C) → All (IsPieceBy made plan) accepted → IsPieceBy made plan p → has_piece p.file p.number (with_arrival (shape_of plan) accepted p) ≡ true
accepted_then made plan accepted p all is = elim (cases_Bool (has_piece p.file p.number accepted)) [
  | inl there ↦ has_more (shape_of plan) accepted p p.file p.number (cause_against (shape_of plan) accepted p) there
  | inr new ↦
      ap (λ (cause : Option Why). has_piece p.file p.number (joined cause accepted p)) (accepted_new made plan accepted p all is new)
      ∙ any_last (is_numbered p.file p.number) accepted p
      ∙ or_right (has_piece p.file p.number accepted) (is_numbered p.file p.number p) (and_from (nat_eq p.file p.file) (nat_eq p.number p.number) (eq-eqb p.file p.file refl) (eq-eqb p.number p.number refl))
]

-- a piece in a list is its first element or in the rest
first_or_rest : {C : Type 0} (q : Piece C) (came : List (Piece C)) (p : Piece C) → Contains (q ∷ came) p → (q ≡ p) ⊎ Contains came p
first_or_rest q came p (zero, within, at) = inl at
first_or_rest q came p (suc k, within, at) = inr (k, omega arith, at)

accepted_from : {C : Type 0} (made : Making C) (plan : Planned) (accepted came : List (Piece C)) (p : Piece C) → All (IsPieceBy made plan) accepted → AreHonestBy made plan came → IsPieceBy made plan p → Contains came p ⊎ (has_piece p.file p.number accepted ≡ true) → has_piece p.file p.number (accepted_behind (shape_of plan) accepted came) ≡ true
accepted_from made plan accepted [] p all honest is h = elim h [ inl at ↦ absurd (omega (arith, at.1)) | inr there ↦ there ]
accepted_from made plan accepted (q ∷ came) p all honest is h =
    let next = with_planned made plan accepted q all (All-head (IsHonestBy made plan) q came honest) in
    let more : Contains came p ⊎ (has_piece p.file p.number (with_arrival (shape_of plan) accepted q) ≡ true) = elim h [
      | inl at ↦ elim (first_or_rest q came p at) [
        | inl same ↦ inr (subst (λ r. has_piece p.file p.number (with_arrival (shape_of plan) accepted r) ≡ true) (sym same) (accepted_then made plan accepted p all is))
        | inr rest ↦ inl rest
      ]
      | inr there ↦ inr (has_more (shape_of plan) accepted q p.file p.number (cause_against (shape_of plan) accepted q) there)
    ] in
    accepted_from made plan (with_arrival (shape_of plan) accepted q) came p next (All-tail (IsHonestBy made plan) q came honest) is more

-- a file is taken whole if each of its pieces came
pub taken_whole : {C : Type 0} (made : Making C) (plan : Planned) (came : List (Piece C)) (counts : List ℕ) (file : ℕ) → AreHonestBy made plan came → AllDelivered (shape_of plan) came counts → file < files_of plan → slice_index counts file ≤ pieces_of plan file → AreAllAmongBy made plan file came → slice_index counts file ≡ pieces_of plan file
taken_whole made plan came counts file honest delivered within at_most all =
    elim (cases_lt (slice_index counts file) (pieces_of plan file)) [
      | inl less ↦
          let p = piece_by made plan file (slice_index counts file) in
          let there = all (slice_index counts file) less in
          let is = All-contains (IsHonestBy made plan) came p honest there refl within in
          absurd (both_ways (has_piece file (slice_index counts file) (accepted_of (shape_of plan) came)) ((delivered.each file within).missing)
          (accepted_from made plan [] came p (All-nil (IsPieceBy made plan)) honest is (inl there)))
      | inr more ↦ omega arith
    ]
