-- Laws of the lines of a plan's files.
use Rattle.std.proofs.Common.{ℕ, zero, suc, ◌≡◌, ◌+◌, ◌*◌, ◌<◌, ◌≤◌, ◌&&◌, List, [], ◌∷◌, ◌++◌, inl, inr, take, refl, sym, ◌∙◌, ap, subst, arith, append_assoc, append-nil}
use Rattle.std.specs.Prelude.{slice_index}
use Rattle.std.proofs.Math.Nat.{mul-le-mul_right}
use Rattle.std.proofs.lemmas.Bool.{cases_Bool, cases_eq, cases_lt, both_ways, eq-eqb, ne_eqb}
use Rattle.std.proofs.lemmas.Grind.{flat_map-append}
use Rattle.std.proofs.lemmas.List.{drop_all, get_or_past, take_all}
use Rattle.lx_scan.specs.declared.item.Item.{Item}
use Rattle.lx_piece.specs.Plans.{Planned, IsPlan, files_of, is_cut, items_of}
use Rattle.lx_piece.specs.Pieces.{IsPrefix, ItemPiece, contents, part, piece_at, pieces_of, pieces_to}
use Rattle.lx_piece.specs.Relayed.{AreAllTaken, HasOpenFile}
use Rattle.lx_piece.specs.PieceLaws.{marked_cut, pieces_hold, prefix_to, whole_at}
use Rattle.lx_listing.specs.Lines.{Style, cut_lines_by, file_lines_by, lines_by, piece_lines_by, pieces_lines_by, plain}
use Rattle.lx_listing.specs.AppendingLaws.{appends_nothing, appends_both, prefix_all, prefix_then, prefix_behind, prefix_before}
use Rattle.lx_listing.specs.Listings.{listing_by, listing_to, listing_to_by, listing_of, taken_lines, taken_lines_by, IsDue, Printed, Prints}

-- the lines of some first items begin those of all
prefix_lines : (style : Style) (plan : Planned) (file : ℕ) (xs ys : List Item) → IsPrefix xs ys → IsPrefix (lines_by style plan file xs) (lines_by style plan file ys)
prefix_lines style plan file xs ys f =
    (lines_by style plan file f.0, sym (flat_map-append (style.line plan file) xs f.0) ∙ ap (λ items. lines_by style plan file items) f.1)

-- the lines of pieces and then of one more
pub lines_one : (style : Style) (plan : Planned) (file : ℕ) (xs : List ItemPiece) (piece : ItemPiece) → pieces_lines_by style plan file (xs ++ piece ∷ []) ≡ pieces_lines_by style plan file xs ++ piece_lines_by style plan file piece
lines_one style plan file xs piece =
    flat_map-append (piece_lines_by style plan file) xs (piece ∷ []) ∙ ap (λ bytes. pieces_lines_by style plan file xs ++ bytes) (append-nil (piece_lines_by style plan file piece))

-- the items of the first pieces, and of the next one
items_one : (style : Style) (plan : Planned) (file count : ℕ) → lines_by style plan file (contents (pieces_to plan file (suc count))) ≡ lines_by style plan file (contents (pieces_to plan file count)) ++ lines_by style plan file (part plan.per_piece (items_of plan file) count)
items_one style plan file count =
    let items = part plan.per_piece (items_of plan file) count in
    ap (λ all. lines_by style plan file all)
    (flat_map-append (λ (piece : ItemPiece). piece.items) (pieces_to plan file count) (piece_at plan file count ∷ []) ∙ ap (λ more. contents (pieces_to plan file count) ++ more) (append-nil items))
    ∙ flat_map-append (style.line plan file) (contents (pieces_to plan file count)) items

-- except for the last one, a piece has the lines of its items
open_piece : (style : Style) (plan : Planned) (file number : ℕ) → (number + 1 ≡ pieces_of plan file → ⊥) → piece_lines_by style plan file (piece_at plan file number) ≡ lines_by style plan file (part plan.per_piece (items_of plan file) number)
open_piece style plan file number d =
    let items = part plan.per_piece (items_of plan file) number in
    ap (λ cut. lines_by style plan file items ++ cut_lines_by style file cut) (marked_cut plan file number ∙ ap (λ last. last && is_cut plan file) (ne_eqb (number + 1) (pieces_of plan file) d))
    ∙ append-nil (lines_by style plan file items)

-- the last one also has the cut line if the file's reading failed
last_piece : (style : Style) (plan : Planned) (file number : ℕ) → number + 1 ≡ pieces_of plan file → piece_lines_by style plan file (piece_at plan file number) ≡ lines_by style plan file (part plan.per_piece (items_of plan file) number) ++ cut_lines_by style file (is_cut plan file)
last_piece style plan file number e =
    ap (λ cut. lines_by style plan file (part plan.per_piece (items_of plan file) number) ++ cut_lines_by style file cut)
    (marked_cut plan file number ∙ ap (λ last. last && is_cut plan file) (eq-eqb (number + 1) (pieces_of plan file) e))

-- before the last one, the lines of the first pieces are those of their items
pub open_lines : (style : Style) (plan : Planned) (file count : ℕ) → count < pieces_of plan file → taken_lines_by style plan file count ≡ lines_by style plan file (contents (pieces_to plan file count))
open_lines style plan file zero l = refl
open_lines style plan file (suc count) l =
    lines_one style plan file (pieces_to plan file count) (piece_at plan file count)
    ∙ ap (λ bytes. bytes ++ piece_lines_by style plan file (piece_at plan file count)) (open_lines style plan file count (omega arith))
    ∙ ap (λ bytes. lines_by style plan file (contents (pieces_to plan file count)) ++ bytes) (open_piece style plan file count (λ e. absurd (omega arith)))
    ∙ sym (items_one style plan file count)

-- after the last one there are no items
no_part : (plan : Planned) (file count : ℕ) → 0 < plan.per_piece → pieces_of plan file ≤ count → part plan.per_piece (items_of plan file) count ≡ []
no_part plan file count some past =
    let all = pieces_hold plan.per_piece (items_of plan file) some in
    let more = mul-le-mul_right plan.per_piece past in
    ap (λ (rest : List Item). take plan.per_piece rest) (drop_all (count * plan.per_piece) (items_of plan file) (omega arith)) ∙ take_all plan.per_piece [] (omega arith)

-- from the last one on, the lines of the first pieces are those of the file
pub whole_lines : (style : Style) (plan : Planned) (file count : ℕ) → 0 < plan.per_piece → pieces_of plan file ≤ count → taken_lines_by style plan file count ≡ file_lines_by style plan file
whole_lines style plan file zero some l = absurd (omega arith)
whole_lines style plan file (suc count) some l = elim (cases_lt count (pieces_of plan file)) [
  | inl last ↦
      lines_one style plan file (pieces_to plan file count) (piece_at plan file count)
      ∙ ap (λ bytes. bytes ++ piece_lines_by style plan file (piece_at plan file count)) (open_lines style plan file count last)
      ∙ ap (λ bytes. lines_by style plan file (contents (pieces_to plan file count)) ++ bytes) (last_piece style plan file count (omega arith))
      ∙ sym (append_assoc (lines_by style plan file (contents (pieces_to plan file count))) (lines_by style plan file (part plan.per_piece (items_of plan file) count)) (cut_lines_by style file (is_cut plan file)))
      ∙ ap (λ bytes. bytes ++ cut_lines_by style file (is_cut plan file)) (sym (items_one style plan file count) ∙ ap (λ items. lines_by style plan file items) (whole_at plan file (suc count) some (omega arith)))
  | inr past ↦
      lines_one style plan file (pieces_to plan file count) (piece_at plan file count)
      ∙ ap (λ bytes. bytes ++ piece_lines_by style plan file (piece_at plan file count)) (whole_lines style plan file count some past)
      ∙ ap (λ bytes. file_lines_by style plan file ++ bytes) (open_piece style plan file count (λ e. absurd (omega arith)) ∙ ap (λ items. lines_by style plan file items) (no_part plan file count some past))
      ∙ append-nil (file_lines_by style plan file)
]

-- the lines of the first pieces begin those of the file
pub taken_begin : (style : Style) (plan : Planned) (file count : ℕ) → 0 < plan.per_piece → IsPrefix (taken_lines_by style plan file count) (file_lines_by style plan file)
taken_begin style plan file count some = elim (cases_lt count (pieces_of plan file)) [
  | inl open_file ↦
      subst (λ (bytes : List ℕ). IsPrefix bytes (file_lines_by style plan file)) (sym (open_lines style plan file count open_file))
      (prefix_then (lines_by style plan file (contents (pieces_to plan file count))) (lines_by style plan file (items_of plan file)) (file_lines_by style plan file)
      (prefix_lines style plan file (contents (pieces_to plan file count)) (items_of plan file) (prefix_to plan file count))
      (prefix_before (lines_by style plan file (items_of plan file)) (cut_lines_by style file (is_cut plan file))))
  | inr closed ↦ subst (λ (bytes : List ℕ). IsPrefix bytes (file_lines_by style plan file)) (sym (whole_lines style plan file count some closed)) (prefix_all (file_lines_by style plan file))
]

-- the lines of the files below one begin those of the files below a later one
pub listing_rises : (style : Style) (plan : Planned) (low high : ℕ) → low ≤ high → IsPrefix (listing_to_by style plan low) (listing_to_by style plan high)
listing_rises style plan low zero l =
    let none : low ≡ 0 = omega arith in
    subst (λ (n : ℕ). IsPrefix (listing_to_by style plan n) []) (sym none) (prefix_all [])
listing_rises style plan low (suc high) l = elim (cases_eq low (suc high)) [
  | inl same ↦ subst (λ (n : ℕ). IsPrefix (listing_to_by style plan n) (listing_to_by style plan (suc high))) (sym same) (prefix_all (listing_to_by style plan (suc high)))
  | inr d ↦ prefix_then (listing_to_by style plan low) (listing_to_by style plan high) (listing_to_by style plan (suc high)) (listing_rises style plan low high (omega arith)) (prefix_before (listing_to_by style plan high) (file_lines_by style plan high))
]

-- the lines of the first pieces of a file, after those of the files before it, begin the listing
pub lines_begin : (style : Style) (plan : Planned) (file count : ℕ) → IsPlan plan → file < files_of plan → IsPrefix (listing_to_by style plan file ++ taken_lines_by style plan file count) (listing_by style plan)
lines_begin style plan file count is l =
    prefix_then (listing_to_by style plan file ++ taken_lines_by style plan file count) (listing_to_by style plan (suc file)) (listing_by style plan)
    (prefix_behind (listing_to_by style plan file) (taken_lines_by style plan file count) (file_lines_by style plan file) (taken_begin style plan file count is.some_items))
    (listing_rises style plan (suc file) (files_of plan) (omega arith))

-- the due text begins the listing
pub due_begins : (plan : Planned) (counts text : List ℕ) → IsDue plan counts text → IsPrefix text (listing_of plan)
due_begins plan counts text d =
    let size = d.first_open.files in
    let within = d.first_open.within in
    subst (λ (bytes : List ℕ). IsPrefix bytes (listing_of plan)) (sym d.lines)
    (elim (cases_lt d.first (files_of plan)) [
      | inl l ↦ lines_begin plain plan d.first (slice_index counts d.first) d.plan_is l
      | inr past ↦
          let none : slice_index counts d.first ≡ 0 = get_or_past counts d.first 0 (omega arith) in
          let all : d.first ≡ files_of plan = omega arith in
          subst (λ (n : ℕ). IsPrefix (listing_to plan d.first ++ taken_lines plan d.first n) (listing_of plan)) (sym none)
          (subst (λ (n : ℕ). IsPrefix (listing_to plan n ++ []) (listing_of plan)) (sym all)
          (subst (λ (bytes : List ℕ). IsPrefix bytes (listing_of plan)) (sym (append-nil (listing_of plan))) (prefix_all (listing_of plan))))
    ])

-- the due text once every file is closed
pub due_whole : (plan : Planned) (counts text : List ℕ) → AreAllTaken plan counts → IsDue plan counts text → text ≡ listing_of plan
due_whole plan counts text closed d =
    let size = d.first_open.files in
    let within = d.first_open.within in
    let all : d.first ≡ files_of plan = elim (cases_lt d.first (files_of plan)) [
      | inl l ↦ absurd (d.first_open.not_closed l (closed d.first l))
      | inr past ↦ omega arith
    ] in
    let none : slice_index counts d.first ≡ 0 = get_or_past counts d.first 0 (omega arith) in
    d.lines
    ∙ ap (λ (n : ℕ). listing_to plan d.first ++ taken_lines plan d.first n) none
    ∙ append-nil (listing_to plan d.first)
    ∙ ap (λ (n : ℕ). listing_to plan n) all

pub prints_nothing : (s : Printed) → Prints s s
prints_nothing s =
    record {
      plan = refl;
      bytes = [];
      wrote = appends_nothing s.written;
      due = λ _ _ text due. subst (λ (bytes : List ℕ). IsDue s.progress.plan s.progress.counts bytes) (sym (append-nil text)) due;
      prefix = λ _ text due. subst (λ (bytes : List ℕ). IsPrefix bytes (listing_of s.progress.plan)) (sym (append-nil text)) (due_begins s.progress.plan s.progress.counts text due);
      whole = λ _ closed text due. append-nil text ∙ due_whole s.progress.plan s.progress.counts text closed due;
      stuck = λ working failed. absurd (both_ways s.progress.failed working failed);
      stopped = λ failed. (failed, refl, refl);
    }

pub prints_on : (s t u : Printed) → Prints s t → Prints t u → Prints s u
prints_on s t u f h =
    record {
      plan = h.plan ∙ f.plan;
      bytes = f.bytes ++ h.bytes;
      wrote = appends_both s.written t.written u.written f.bytes h.bytes f.wrote h.wrote;
      due = λ working after text due. elim (cases_Bool t.progress.failed) [
        | inl failed ↦ absurd (both_ways u.progress.failed after (h.stopped failed).0)
        | inr going ↦ subst (λ (bytes : List ℕ). IsDue u.progress.plan u.progress.counts bytes) (append_assoc text f.bytes h.bytes) (h.due going after (text ++ f.bytes) (f.due working going text due))
      ];
      prefix = λ working text due. elim (cases_Bool t.progress.failed) [
        | inl failed ↦ subst (λ (bytes : List ℕ). IsPrefix (text ++ bytes) (listing_of s.progress.plan)) (sym (ap (λ bytes. f.bytes ++ bytes) (h.stopped failed).1 ∙ append-nil f.bytes)) (f.prefix working text due)
        | inr going ↦
            subst (λ (bytes : List ℕ). IsPrefix bytes (listing_of s.progress.plan)) (append_assoc text f.bytes h.bytes)
            (subst (λ (plan : Planned). IsPrefix ((text ++ f.bytes) ++ h.bytes) (listing_of plan)) f.plan (h.prefix going (text ++ f.bytes) (f.due working going text due)))
      ];
      whole = λ working closed text due. elim (cases_Bool t.progress.failed) [
        | inl failed ↦
            let some_open = f.stuck working failed in
            let before = subst (λ (plan : Planned). AreAllTaken plan t.progress.counts) h.plan (subst (λ (counts : List ℕ). AreAllTaken u.progress.plan counts) (h.stopped failed).2 closed) in
            absurd (some_open.2 (before some_open.0 some_open.1))
        | inr going ↦ sym (append_assoc text f.bytes h.bytes) ∙ h.whole going closed (text ++ f.bytes) (f.due working going text due)
      ];
      stuck = λ working failed. elim (cases_Bool t.progress.failed) [
        | inl before ↦
            subst (λ (plan : Planned). HasOpenFile plan u.progress.counts) (sym h.plan)
            (subst (λ (counts : List ℕ). HasOpenFile t.progress.plan counts) (sym (h.stopped before).2) (f.stuck working before))
        | inr going ↦ h.stuck going failed
      ];
      stopped = λ failed.
          let a = f.stopped failed in
          let b = h.stopped a.0 in
          (b.0, ap (λ bytes. bytes ++ h.bytes) a.1 ∙ b.1, b.2 ∙ a.2);
    }
