-- Laws of a printer's output between two turns.
use Rattle.std.proofs.Common.{ℕ, ◌≡◌, inl, inr, List, [], ◌++◌, refl, sym, ◌∙◌, ap, subst, arith, append_assoc, append-nil}
use Rattle.std.proofs.lemmas.Bool.{cases_lt}
use Rattle.lx_piece.specs.declared.reader.ReaderFault.{ReaderFault}
use Rattle.lx_piece.specs.declared.reader.ReaderFault.TheVariants.{Memory}
use Rattle.lx_piece.specs.Plans.{files_of}
use Rattle.lx_piece.specs.Pieces.{IsPrefix}
use Rattle.lx_piece.specs.Turns.{Turn}
pub use Rattle.lx_line.specs.StyleLaws.{whole_both}
use Rattle.lx_listing.specs.Listings.{IsTurnOf, Listed, all_lines, lines_until, listing_to_by, taken_lines_by}
use Rattle.lx_listing.specs.ListingLaws.{lines_begin}
use Rattle.lx_listing.specs.AppendingLaws.{prefix_all}
use Rattle.lx_listing.specs.Printing.{Printing, PrintsTo, PrintsPart}

-- the lines before a turn of the plan begin the listing
pub turn_begins : (listed : Listed) (turn : Turn) → IsTurnOf listed.plan turn → IsPrefix (lines_until listed turn) (all_lines listed)
turn_begins listed turn is =
    let style = listed.style in
    let plan = listed.plan in
    let within = is.within in
    elim (cases_lt turn.file (files_of plan)) [
      | inl l ↦ lines_begin style plan turn.file turn.number is.plan_is l
      | inr past ↦
          let all : turn.file ≡ files_of plan = omega arith in
          subst (λ (bytes : List ℕ). IsPrefix bytes (all_lines listed))
          (sym (ap (λ (n : ℕ). listing_to_by style plan turn.file ++ taken_lines_by style plan turn.file n) (is.first all) ∙ append-nil (listing_to_by style plan turn.file) ∙ ap (λ (n : ℕ). listing_to_by style plan n) all))
          (prefix_all (all_lines listed))
    ]

pub prints_itself : {S : Type 0} (wrote : S → List ℕ → S → Type 0) (nothing : (s : S) → wrote s [] s) (s : Printing S) → PrintsTo wrote s s
prints_itself wrote nothing s =
    record {
      same = refl;
      bytes = [];
      written = nothing s.sink;
      whole = inl refl;
      after = λ is. is;
      due = λ _. append-nil (lines_until s.listed s.turn);
    }

pub prints_then : {S : Type 0} (wrote : S → List ℕ → S → Type 0) (on : (s t u : S) (xs ys : List ℕ) → wrote s xs t → wrote t ys u → wrote s (xs ++ ys) u) (s t u : Printing S) → PrintsTo wrote s t → PrintsTo wrote t u → PrintsTo wrote s u
prints_then wrote on s t u f h =
    let after : IsTurnOf s.listed.plan t.turn → IsTurnOf s.listed.plan u.turn = λ is. subst (λ (p : Listed). IsTurnOf p.plan u.turn) f.same (h.after (subst (λ (p : Listed). IsTurnOf p.plan t.turn) (sym f.same) is)) in
    record {
      same = h.same ∙ f.same;
      bytes = f.bytes ++ h.bytes;
      written = on s.sink t.sink u.sink f.bytes h.bytes f.written h.written;
      whole = whole_both f.bytes h.bytes f.whole h.whole;
      after = λ is. after (f.after is);
      due = λ is.
          sym (append_assoc (lines_until s.listed s.turn) f.bytes h.bytes)
          ∙ ap (λ bytes. bytes ++ h.bytes) (f.due is)
          ∙ subst (λ (p : Listed). lines_until p t.turn ++ h.bytes ≡ lines_until p u.turn) f.same (h.due (subst (λ (p : Listed). IsTurnOf p.plan t.turn) (sym f.same) (f.after is)));
    }

pub part_behind : {S : Type 0} (wrote : S → List ℕ → S → Type 0) (on : (s t u : S) (xs ys : List ℕ) → wrote s xs t → wrote t ys u → wrote s (xs ++ ys) u) (s t u : Printing S) (fault : ReaderFault) → PrintsTo wrote s t → PrintsPart wrote t fault u → PrintsPart wrote s fault u
part_behind wrote on s t u fault f h =
    record {
      bytes = f.bytes ++ h.bytes;
      written = on s.sink t.sink u.sink f.bytes h.bytes f.written h.written;
      whole = λ memory. whole_both f.bytes h.bytes f.whole (h.whole memory);
      prefix = λ is.
          subst (λ (bytes : List ℕ). IsPrefix bytes (all_lines s.listed)) (append_assoc (lines_until s.listed s.turn) f.bytes h.bytes)
          (subst (λ (bytes : List ℕ). IsPrefix (bytes ++ h.bytes) (all_lines s.listed)) (sym (f.due is))
          (subst (λ (p : Listed). IsPrefix (lines_until p t.turn ++ h.bytes) (all_lines p)) f.same (h.prefix (subst (λ (p : Listed). IsTurnOf p.plan t.turn) (sym f.same) (f.after is)))));
    }

pub prints_no_more : {S : Type 0} (wrote : S → List ℕ → S → Type 0) (nothing : (s : S) → wrote s [] s) (s : Printing S) → PrintsPart wrote s Memory s
prints_no_more wrote nothing s =
    record {
      bytes = [];
      written = nothing s.sink;
      whole = λ _. inl refl;
      prefix = λ is. subst (λ (bytes : List ℕ). IsPrefix bytes (all_lines s.listed)) (sym (append-nil (lines_until s.listed s.turn))) (turn_begins s.listed s.turn is);
    }
