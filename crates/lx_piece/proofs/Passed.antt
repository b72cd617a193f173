-- A reader that delivers pieces in order: before anything came, and after a piece that it took.
use Rattle.std.proofs.Common.{ℕ, ◌≡◌, ◌+◌, ◌<◌, inl, inr, Bool, false, List, [], refl, sym, ◌∙◌, ap, subst, arith, length, get_or, replicate}
use Rattle.std.specs.Prelude.{slice_index, slice_set}
use Rattle.std.proofs.lemmas.Bool.{both_ways, cases_lt}
use Rattle.std.proofs.lemmas.List.{length-replicate, get_or-replicate, get_or_past, get_or_default}
use Rattle.lx_piece.specs.declared.piece.Piece.{Piece}
use Rattle.lx_piece.specs.Plans.{Planned, files_of}
use Rattle.lx_piece.specs.Pieces.{Making}
use Rattle.lx_piece.specs.declared.reader.ReaderFault.{ReaderFault}
use Rattle.lx_piece.specs.Turns.{Turn, IsFirstOpen, IsTurnBy}
use Rattle.lx_piece.specs.Waiting.{AreFirstPieces, KeepsUp, counted, waiting_of}
use Rattle.lx_piece.specs.Passing.{PassesOn}

-- ---- before anything came

pub fresh_open : (plan : Planned) (counts : List ℕ) → counts ≡ replicate (files_of plan) 0 → IsFirstOpen plan counts 0
fresh_open plan counts e =
    record {
      files = ap length e ∙ length-replicate (files_of plan) 0;
      within = omega arith;
      below = λ g l. absurd (omega arith);
      not_closed = λ l all.
          let none : slice_index counts 0 ≡ 0 = ap (λ (ns : List ℕ). slice_index ns 0) e ∙ get_or-replicate (files_of plan) 0 0 0 l in
          absurd (omega arith);
    }

pub fresh_keeps : {C : Type 0} (made : Making C) (plan : Planned) (turn : Turn) (counts : List ℕ) (waiting : List (List (Piece C))) → turn ≡ record { file = 0; number = 0 } → counts ≡ replicate (files_of plan) 0 → waiting ≡ replicate (files_of plan) [] → KeepsUp made plan turn counts 0 waiting
fresh_keeps made plan turn counts waiting t e w =
    let none : (g : ℕ) → slice_index counts g ≡ 0 = λ g. elim (cases_lt g (files_of plan)) [
      | inl l ↦ ap (λ (ns : List ℕ). slice_index ns g) e ∙ get_or-replicate (files_of plan) g 0 0 l
      | inr past ↦ get_or_past counts g 0 (let size = ap length e ∙ length-replicate (files_of plan) 0 in omega arith)
    ] in
    let empty : (g : ℕ) → g < files_of plan → waiting_of waiting g ≡ [] = λ g m. ap (λ ws. waiting_of ws g) w ∙ get_or-replicate (files_of plan) g [] [] m in
    record {
      first_open = fresh_open plan counts e;
      turn_is = t ∙ ap (λ (n : ℕ). record { file = 0; number = n }) (sym (none 0));
      waits = record {
        lists = ap length w ∙ length-replicate (files_of plan) [];
        each = λ g l m. subst (AreFirstPieces made plan g) (sym (empty g m)) (record { within = omega arith; countable = omega arith; same = refl });
      };
      came = λ g l m. ap length (empty g m) ∙ sym (none g);
    }

-- a count that was read and raised
pub count_raised : (counts : List ℕ) (file count : ℕ) → file < length counts → count ≡ get_or counts file count → slice_set counts file (count + 1) ≡ counted counts file
count_raised counts file count l e = ap (λ (n : ℕ). slice_set counts file (n + 1)) (e ∙ get_or_default counts file count 0 l)

-- ---- a reader after it took a piece

-- it is the turn of the first open file's next piece
pub turn_by : {C : Type 0} (made : Making C) (plan : Planned) (turn : Turn) (counts : List ℕ) (first : ℕ) (waiting : List (List (Piece C))) → KeepsUp made plan turn counts first waiting → IsTurnBy plan counts turn
turn_by made plan turn counts first waiting k =
    subst (IsTurnBy plan counts) (sym k.turn_is) (record { first = k.first_open; number = refl })

pub passes_taken : {T : Type 0} (plan : T → Planned) (turn : T → Turn) (follows : T → T → Type 0) (fails : T → ReaderFault → T → Type 0) (before after : T) (counts raised : List ℕ) (faults : ℕ) (failed : Bool) → failed ≡ false → plan after ≡ plan before → follows before after → IsTurnBy (plan after) raised (turn after) →
    PassesOn plan turn follows fails (record { taker = before; counts = counts; faults = faults; failed = failed }) (record { taker = after; counts = raised; faults = faults; failed = failed })
passes_taken plan turn follows fails before after counts raised faults failed going same took is =
    record {
      same = same;
      took = λ _ _. took;
      turned = λ _ _ _. is;
      fell = λ _ fell. absurd (both_ways failed going fell);
      stuck = λ _ fell. absurd (both_ways failed going fell);
      stopped = λ fell. absurd (both_ways failed going fell);
    }
