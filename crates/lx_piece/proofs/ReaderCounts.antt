use Rattle.std.proofs.Common.{ℕ, ◌≡◌, ◌+◌, ◌<◌, inl, inr, List, length, Some, None, sym, ◌∙◌, ap, arith}
use Rattle.std.specs.Prelude.{slice_get, slice_set, slice_index, if◌then◌else◌}
use Rattle.std.proofs.lemmas.Bool.{cases_eq, eq-eqb, ne_eqb}
use Rattle.std.proofs.lemmas.Option.{slice_get_within, get_or_from_slice_get}
use Rattle.std.proofs.lemmas.List.{map-set, get_or-set_same, get_or-set_other}
use Rattle.std.proofs.lemmas.List.Sums.{sum_by-set}
use Rattle.std.proofs.Math.ListN.{length-set}
use Rattle.std.proofs.Math.Seq.{map-set_same}
use Rattle.lx_piece.specs.declared.piece.Piece.{Piece}
use Rattle.lx_piece.specs.Pieces.{Making}
use Rattle.lx_piece.specs.PieceLaws.{takes_in_order}
use Rattle.lx_piece.specs.Plans.{Planned}
use Rattle.lx_piece.specs.Kept.{Buffered, Delivers, KeepsIn, held_at, held_total}
use Rattle.lx_piece.specs.Delivered.{HoldsPlanned, AreAtMost}
use Rattle.lx_piece.specs.NextPiece.{IsNextPieceBy}
use Rattle.lx_piece.proofs.Readies.{get_set_same, get_set_other}
use Rattle.lx_piece.proofs.Standing.{same_some}
use Rattle.lx_piece.proofs.Counts.{nexts, length-nexts, count_at}

-- a piece that is kept changes no count
pub counts_kept : {C : Type 0} (old new : List (Buffered C)) (p : Piece C) → KeepsIn old p new → nexts new ≡ nexts old
counts_kept {C} old new p k =
    ap nexts k.after
    ∙ map-set_same (λ (buffer : Buffered C). buffer.next) old p.file k.kept k.buffer (k.keeps.next ∙ sym (ap (λ (buffer : Buffered C). buffer.next) (get_or_from_slice_get old p.file k.buffer k.buffer k.there)))

-- a piece that is delivered raises its file's count by one
pub counts_delivered : {C : Type 0} (old new : List (Buffered C)) (file : ℕ) (p : Piece C) → Delivers old file p new → nexts new ≡ slice_set (nexts old) file (slice_index (nexts old) file + 1)
counts_delivered {C} old new file p h =
    ap nexts h.after
    ∙ map-set (λ (buffer : Buffered C). buffer.next) old file h.advanced
    ∙ ap (λ (n : ℕ). slice_set (nexts old) file n) (h.moves.next ∙ ap (λ (n : ℕ). n + 1) (sym (count_at old file h.buffer h.there)))

-- the piece that is delivered is the one that the reader takes next of its file
pub delivered_is_next : {C : Type 0} (made : Making C) (plan : Planned) (counts : List ℕ) (old new : List (Buffered C)) (file : ℕ) (p : Piece C) → 0 < plan.per_piece → HoldsPlanned made plan old → counts ≡ nexts old → Delivers old file p new → IsNextPieceBy made plan counts p
delivered_is_next made plan counts old new file p some s e h =
    let is = s.each file h.buffer h.there h.buffer.next p h.next in
    let number = is.2 ∙ sym (count_at old file h.buffer h.there) ∙ ap (λ (n : ℕ). slice_index (nexts old) n) (sym is.1) ∙ sym (ap (λ (ns : List ℕ). slice_index ns p.file) e) in
    let below = is.0.number in
    record {
      planned = is.0;
      number = number;
      taken = takes_in_order plan p.file (slice_index counts p.file) some (omega arith);
    }

-- the reader's counts follow the collector's
pub counts_follow : {C : Type 0} (made : Making C) (plan : Planned) (counts after : List ℕ) (old new : List (Buffered C)) (file : ℕ) (p : Piece C) → HoldsPlanned made plan old → counts ≡ nexts old → Delivers old file p new → after ≡ slice_set counts p.file (slice_index counts p.file + 1) → after ≡ nexts new
counts_follow made plan counts after old new file p s e h a =
    let is = s.each file h.buffer h.there h.buffer.next p h.next in
    a
    ∙ ap (λ (ns : List ℕ). slice_set ns p.file (slice_index ns p.file + 1)) e
    ∙ ap (λ (n : ℕ). slice_set (nexts old) n (slice_index (nexts old) n + 1)) is.1
    ∙ sym (counts_delivered old new file p h)

-- the held pieces are still the plan's
pub planned_delivered : {C : Type 0} (made : Making C) (plan : Planned) (old new : List (Buffered C)) (file : ℕ) (p : Piece C) → HoldsPlanned made plan old → Delivers old file p new → HoldsPlanned made plan new
planned_delivered made plan old new file p s h =
    record {
      files = ap length h.after ∙ length-set old file h.advanced ∙ s.files;
      each = λ g buffer at n q held.
          elim (cases_eq g file) [
            | inl e ↦
                let is : Some h.advanced ≡ Some buffer = sym (ap (λ l. slice_get l g) h.after ∙ (ap (slice_get (slice_set old file h.advanced)) e ∙ get_set_same old file h.advanced (slice_get_within old file h.buffer h.there))) ∙ at in
                let advanced : held_at h.advanced n ≡ Some q = ap (λ l. held_at l n) (same_some h.advanced buffer is) ∙ held in
                elim (cases_eq n h.buffer.next) [
                  | inl same ↦
                      let gone : None ≡ Some q = sym (h.moves.held n ∙ ap (λ b. if b then None else held_at h.buffer n) (eq-eqb n h.buffer.next same)) ∙ advanced in
                      absurd (cc)
                  | inr d ↦
                      let was : held_at h.buffer n ≡ Some q = sym (h.moves.held n ∙ ap (λ b. if b then None else held_at h.buffer n) (ne_eqb n h.buffer.next d)) ∙ advanced in
                      let r = s.each file h.buffer h.there n q was in
                      (r.0, r.1 ∙ sym e, r.2)
                ]
            | inr d ↦ s.each g buffer (sym (ap (λ l. slice_get l g) h.after ∙ get_set_other old file g h.advanced d) ∙ at) n q held
          ];
    }

-- fewer pieces are held
pub fewer_held : {C : Type 0} (old new : List (Buffered C)) (file : ℕ) (p : Piece C) → Delivers old file p new → held_total new < held_total old
fewer_held {C} old new file p h =
    let total = sum_by-set (λ (buffer : Buffered C). length buffer.held) old file h.advanced h.buffer (slice_get_within old file h.buffer h.there) in
    let buffer = ap (λ (l : Buffered C). length l.held) (get_or_from_slice_get old file h.buffer h.buffer h.there) in
    let fewer = h.moves.fewer in
    let now = ap held_total h.after in
    omega arith

pub same_size : {C : Type 0} (old new : List (Buffered C)) (file : ℕ) (p : Piece C) → Delivers old file p new → length new ≡ length old
same_size old new file p h = ap length h.after ∙ length-set old file h.advanced

-- the counts before are at most those after
pub counts_rise : {C : Type 0} (old new : List (Buffered C)) (file : ℕ) (p : Piece C) → Delivers old file p new → AreAtMost (nexts old) (nexts new)
counts_rise old new file p h =
    record {
      files = length-nexts old ∙ sym (same_size old new file p h) ∙ sym (length-nexts new);
      each = λ g. elim (cases_eq g file) [
        | inl e ↦
            let size = length-nexts old in
            let within = slice_get_within old file h.buffer h.there in
            let set : slice_index (nexts new) g ≡ slice_index (nexts old) g + 1 =
            ap (λ (ns : List ℕ). slice_index ns g) (counts_delivered old new file p h)
            ∙ ap (slice_index (slice_set (nexts old) file (slice_index (nexts old) file + 1))) e
            ∙ get_or-set_same (nexts old) file (slice_index (nexts old) file + 1) 0 (omega arith)
            ∙ ap (λ (n : ℕ). slice_index (nexts old) n + 1) (sym e) in
            omega arith
        | inr d ↦
            let same : slice_index (nexts new) g ≡ slice_index (nexts old) g = ap (λ (ns : List ℕ). slice_index ns g) (counts_delivered old new file p h) ∙ get_or-set_other (nexts old) file g (slice_index (nexts old) file + 1) 0 d in
            omega arith
      ];
    }

-- so counts that follow the collector's have not fallen
pub risen_more : {C : Type 0} (first counts after : List ℕ) (old new : List (Buffered C)) (file : ℕ) (p : Piece C) → AreAtMost first counts → counts ≡ nexts old → after ≡ nexts new → Delivers old file p new → AreAtMost first after
risen_more first counts after old new file p before e f h =
    let step = counts_rise old new file p h in
    record {
      files = before.files ∙ ap length e ∙ step.files ∙ sym (ap length f);
      each = λ g.
          let was = before.each g in
          let more = step.each g in
          let old_count = ap (λ (ns : List ℕ). slice_index ns g) e in
          let new_count = ap (λ (ns : List ℕ). slice_index ns g) f in
          omega arith;
    }
