-- The pieces of a plan that are cut one file after the other.
use Rattle.std.proofs.Common.{ℕ, zero, suc, ◌≡◌, ◌+◌, ◌<◌, inl, inr, [], ◌∷◌, ◌++◌, List, Option, Some, None, refl, sym, ◌∙◌, ap, subst, arith, append_assoc, append-nil, add-one}
use Rattle.std.specs.Prelude.{Contains, IfOk, MatchOption, OnErr, Result, Ok, Err, false}
use Rattle.std.proofs.lemmas.Bool.{cases_eq}
use Rattle.std.proofs.lemmas.List.Elements.{Contains-append_left, Contains-append_right}
use Rattle.lx_piece.specs.declared.piece.Piece.{Piece}
use Rattle.lx_piece.specs.Cutting.{Cutting}
use Rattle.lx_piece.specs.Plans.{Planned, files_of}
use Rattle.lx_piece.specs.Pieces.{Making, IsPieceBy, piece_by, pieces_of, pieces_by}
use Rattle.lx_piece.specs.Relayed.{AreAllAmongBy}
use Rattle.lx_piece.specs.PlanPieces.{CutSoFar, Cuts, pieces_below, pieces_before}

-- one piece more
pub cut_more : {C : Type 0} (made : Making C) (plan : Planned) (old new : Cutting) (p : Piece C) → p ≡ piece_by made plan old.file old.next → new.file ≡ old.file → new.next ≡ old.next + 1 → pieces_before made plan new ≡ pieces_before made plan old ++ p ∷ []
cut_more {C} made plan old new p is file next =
    ap (λ (f : ℕ). pieces_below made plan f ++ pieces_by made plan f new.next) file
    ∙ ap (λ (n : ℕ). pieces_below made plan old.file ++ pieces_by made plan old.file n) (next ∙ add-one old.next)
    ∙ ap (λ (q : Piece C). pieces_below made plan old.file ++ (pieces_by made plan old.file old.next ++ q ∷ [])) (sym is)
    ∙ sym (append_assoc (pieces_below made plan old.file) (pieces_by made plan old.file old.next) (p ∷ []))

-- the pieces before those of the next file
fresh_before : {C : Type 0} (made : Making C) (plan : Planned) (old fresh : Cutting) → old.next ≡ pieces_of plan old.file → fresh.file ≡ old.file + 1 → fresh.next ≡ 0 → pieces_before made plan fresh ≡ pieces_before made plan old
fresh_before made plan old fresh end file first =
    ap (λ (n : ℕ). pieces_below made plan fresh.file ++ pieces_by made plan fresh.file n) first
    ∙ append-nil (pieces_below made plan fresh.file)
    ∙ ap (λ (f : ℕ). pieces_below made plan f) (file ∙ add-one old.file)
    ∙ ap (λ (n : ℕ). pieces_below made plan old.file ++ pieces_by made plan old.file n) (sym end)

-- the first piece of the next file
pub cut_first : {C E : Type 0} (made : Making C) (plan : Planned) (old fresh new : Cutting) (result : Result (Option (Piece C)) E) → old.next ≡ pieces_of plan old.file → fresh.file ≡ old.file + 1 → fresh.next ≡ 0 → new.file ≡ fresh.file →
    IfOk result (λ next. MatchOption next ((fresh.next ≡ pieces_of plan fresh.file) × (new ≡ fresh)) (λ piece. IsPieceBy made plan piece × (piece ≡ piece_by made plan fresh.file fresh.next) × (new.next ≡ fresh.next + 1))) →
    IfOk result (λ next. MatchOption next ((pieces_before made plan new ≡ pieces_before made plan old) × (pieces_before made plan new ≡ pieces_below made plan (files_of plan))) (λ piece. IsPieceBy made plan piece × (pieces_before made plan new ≡ pieces_before made plan old ++ piece ∷ [])))
cut_first made plan old fresh new (Err e) end file first same h = tt
cut_first made plan old fresh new (Ok None) end file first same h = absurd (let none = h.0 in omega arith)
cut_first made plan old fresh new (Ok (Some piece)) end file first same h =
    (h.0, cut_more made plan fresh new piece h.1 same h.2 ∙ ap (λ ps. ps ++ piece ∷ []) (fresh_before made plan old fresh end file first))

-- if it couldn't be cut
pub cut_none : {C E : Type 0} (made : Making C) (plan : Planned) (old fresh new : Cutting) (result : Result (Option (Piece C)) E) → old.next ≡ pieces_of plan old.file → fresh.file ≡ old.file + 1 → fresh.next ≡ 0 →
    OnErr result (new ≡ fresh) → OnErr result (pieces_before made plan new ≡ pieces_before made plan old)
cut_none made plan old fresh new (Ok next) end file first h = tt
cut_none made plan old fresh new (Err e) end file first h = ap (λ (k : Cutting). pieces_before made plan k) h ∙ fresh_before made plan old fresh end file first

-- each piece of a file is among its first ones
piece_within : {C : Type 0} (made : Making C) (plan : Planned) (file count number : ℕ) → number < count → Contains (pieces_by made plan file count) (piece_by made plan file number)
piece_within made plan file zero number l = absurd (omega arith)
piece_within made plan file (suc count) number l = elim (cases_eq number count) [
  | inl e ↦ Contains-append_right (pieces_by made plan file count) (piece_by made plan file count ∷ []) (piece_by made plan file number) (subst (λ (n : ℕ). Contains (piece_by made plan file n ∷ []) (piece_by made plan file number)) e (0, omega arith, refl))
  | inr d ↦ Contains-append_left (pieces_by made plan file count) (piece_by made plan file count ∷ []) (piece_by made plan file number) (piece_within made plan file count number (omega arith))
]

-- and among those of all files
piece_below : {C : Type 0} (made : Making C) (plan : Planned) (files file number : ℕ) → file < files → number < pieces_of plan file → Contains (pieces_below made plan files) (piece_by made plan file number)
piece_below made plan zero file number f l = absurd (omega arith)
piece_below made plan (suc files) file number f l = elim (cases_eq file files) [
  | inl e ↦ Contains-append_right (pieces_below made plan files) (pieces_by made plan files (pieces_of plan files)) (piece_by made plan file number) (subst (λ (g : ℕ). Contains (pieces_by made plan g (pieces_of plan g)) (piece_by made plan file number)) e (piece_within made plan file (pieces_of plan file) number l))
  | inr d ↦ Contains-append_left (pieces_below made plan files) (pieces_by made plan files (pieces_of plan files)) (piece_by made plan file number) (piece_below made plan files file number (omega arith) l)
]

-- once all was cut, each piece of each file came
pub all_came : {C : Type 0} (made : Making C) (plan : Planned) (old new : CutSoFar C) (came : List (Piece C)) → old ≡ record { plan = plan; cut = []; refused = false } → Cuts old came new → new.cut ≡ pieces_below made new.plan (files_of new.plan) → (file : ℕ) → file < files_of plan → AreAllAmongBy made plan file came
all_came {C} made plan old new came start led ended file within = λ number l.
    let same : new.plan ≡ plan = led.0 ∙ ap (λ (s : CutSoFar C). s.plan) start in
    let came_is : came ≡ pieces_below made plan (files_of plan) =
    sym (led.1 ∙ ap (λ (s : CutSoFar C). s.cut ++ came) start) ∙ (ended ∙ ap (λ (p : Planned). pieces_below made p (files_of p)) same) in
    subst (λ pieces. Contains pieces (piece_by made plan file number)) (sym came_is) (piece_below made plan (files_of plan) file number within l)
