-- The lines of a file that are written as its items are found.
use Rattle.std.proofs.Common.{ℕ, ◌≡◌, ◌+◌, ◌<◌, ◌≤◌, suc, false, List, [], ◌++◌, length, sym, ◌∙◌, ap, subst, append_assoc, append-nil, add-one, arith}
use Rattle.std.specs.Prelude.{All, nat_eq}
use Rattle.std.proofs.lemmas.Bool.{eqb-false}
use Rattle.std.proofs.lemmas.Grind.{flat_map-append}
use Rattle.std.proofs.lemmas.List.Elements.{All-drop, All-take}
use Rattle.std.proofs.Math.Seq.{drop-append_seam, take-append_seam}
use Rattle.lx_scan.specs.declared.item.Item.{Item}
use Rattle.lx_scan.specs.Ends.{Appends}
use Rattle.lx_scan.specs.ItemParts.{IsItemOf}
use Rattle.lx_piece.specs.Plans.{Planned, IsPlan, bytes_of, files_of, items_of, kinds_of}
use Rattle.lx_piece.specs.declared.reader.ReaderFault.{ReaderFault}
use Rattle.lx_line.specs.StyleLaws.{lines_whole}
use Rattle.lx_line.specs.Styles.{HasWholeLines, Style, lines_by}
use Rattle.lx_listing.specs.Lines.{file_lines_by}
use Rattle.lx_listing.specs.ListingLaws.{listing_rises}
use Rattle.lx_listing.specs.Listings.{listing_by, listing_to_by}
use Rattle.lx_listing.specs.Parts.{WrotePart}
use Rattle.lx_listing.specs.Printing.{WrotePrefix}
use Rattle.lx_listing.specs.AppendingLaws.{prefix_behind, prefix_then}
use Rattle.lx_listing.proofs.Parting.{part_more, part_then}

-- the lines of a file's items were written, except for the items that are left
pub record HasListed {S : Type 0} (wrote : S → List ℕ → S → Type 0) (style : Style) (plan : Planned) (file : ℕ) (old new : S) (left : List Item) : Type 0 where
  pub done : List Item
  pub all : items_of plan file ≡ done ++ left
  pub written : wrote old (lines_by style plan file done) new

-- the items that were found, in a list that had none, come before those that are left
pub found_are : (old new left next : List Item) → Appends old new left next → old ≡ [] → left ≡ new ++ next
found_are old new left next a none = a.left_is ∙ ap (λ xs. xs ++ next) (sym (a.new_is ∙ ap (λ xs. xs ++ a.added) none))

-- a list that isn't full has fewer
pub not_full : (count len most : ℕ) → count ≡ len → len ≤ most → nat_eq count most ≡ false → len < most
not_full count len most same few part = let apart = eqb-false count most part in omega (arith, same, few, apart)

pub listed_none : {S : Type 0} (wrote : S → List ℕ → S → Type 0) (nothing : (s : S) → wrote s [] s) (style : Style) (plan : Planned) (file : ℕ) (s : S) (left : List Item) → left ≡ items_of plan file → HasListed wrote style plan file s s left
listed_none wrote nothing style plan file s left is = record {
  done = [];
  all = sym is;
  written = nothing s;
}

pub listed_on : {S : Type 0} (wrote : S → List ℕ → S → Type 0) (on : (s t u : S) (xs ys : List ℕ) → wrote s xs t → wrote t ys u → wrote s (xs ++ ys) u) (style : Style) (plan : Planned) (file : ℕ) (s t u : S) (left items next : List Item) → HasListed wrote style plan file s t left → left ≡ items ++ next → wrote t (lines_by style plan file items) u → HasListed wrote style plan file s u next
listed_on wrote on style plan file s t u left items next listed is w = record {
  done = listed.done ++ items;
  all = listed.all ∙ ap (λ xs. listed.done ++ xs) is ∙ sym (append_assoc listed.done items next);
  written = subst (λ (bytes : List ℕ). wrote s bytes u) (sym (flat_map-append (style.line plan file) listed.done items))
      (on s t u (lines_by style plan file listed.done) (lines_by style plan file items) listed.written w);
}

-- all of them were written
pub listed_all : {S : Type 0} (wrote : S → List ℕ → S → Type 0) (style : Style) (plan : Planned) (file : ℕ) (s t : S) (left : List Item) → HasListed wrote style plan file s t left → left ≡ [] → wrote s (lines_by style plan file (items_of plan file)) t
listed_all wrote style plan file s t left listed none =
    subst (λ (items : List Item). wrote s (lines_by style plan file items) t) (sym (listed.all ∙ ap (λ xs. listed.done ++ xs) none ∙ append-nil listed.done)) listed.written

-- a part of some of those that are left
pub listed_part : {S : Type 0} (wrote : S → List ℕ → S → Type 0) (on : (s t u : S) (xs ys : List ℕ) → wrote s xs t → wrote t ys u → wrote s (xs ++ ys) u) (style : Style) (whole : HasWholeLines style) (plan : Planned) (file : ℕ) (s t u : S) (fault : ReaderFault) (left items next : List Item) → HasListed wrote style plan file s t left → left ≡ items ++ next → WrotePart wrote t fault (lines_by style plan file items) u → WrotePart wrote s fault (lines_by style plan file (items_of plan file)) u
listed_part wrote on style whole plan file s t u fault left items next listed is part =
    let lines = lines_by style plan file in
    subst (λ (bytes : List ℕ). WrotePart wrote s fault bytes u)
    (sym (ap (λ xs. lines xs) (listed.all ∙ ap (λ xs. listed.done ++ xs) is) ∙ flat_map-append (style.line plan file) listed.done (items ++ next)))
    (part_then wrote on s t u fault (lines listed.done) (lines (items ++ next)) (lines_whole style whole plan file listed.done) listed.written
    (subst (λ (bytes : List ℕ). WrotePart wrote t fault bytes u) (sym (flat_map-append (style.line plan file) items next)) (part_more wrote t u fault (lines items) (lines next) part)))

-- nothing more was written
pub listed_no_more : {S : Type 0} (wrote : S → List ℕ → S → Type 0) (style : Style) (whole : HasWholeLines style) (plan : Planned) (file : ℕ) (s t : S) (fault : ReaderFault) (left : List Item) → HasListed wrote style plan file s t left → WrotePart wrote s fault (lines_by style plan file (items_of plan file)) t
listed_no_more wrote style whole plan file s t fault left listed =
    let lines = lines_by style plan file in
    record {
      front = lines listed.done;
      prefix = (lines left, sym (flat_map-append (style.line plan file) listed.done left) ∙ ap (λ xs. lines xs) (sym listed.all));
      written = listed.written;
      whole = λ _. lines_whole style whole plan file listed.done;
    }

-- items among those that are left are items of the file
pub listed_known : {S : Type 0} (wrote : S → List ℕ → S → Type 0) (style : Style) (plan : Planned) (file : ℕ) (s t : S) (left items next : List Item) → IsPlan plan → HasListed wrote style plan file s t left → left ≡ items ++ next → All (IsItemOf (kinds_of plan) (bytes_of plan file)) items
listed_known wrote style plan file s t left items next is listed e =
    let known = IsItemOf (kinds_of plan) (bytes_of plan file) in
    let all : All known (listed.done ++ (items ++ next)) = subst (λ (xs : List Item). All known xs) (listed.all ∙ ap (λ xs. listed.done ++ xs) e) (is.items file) in
    let rest : All known (items ++ next) = subst (λ (xs : List Item). All known xs) (drop-append_seam listed.done (items ++ next)) (All-drop known (length listed.done) (listed.done ++ (items ++ next)) all) in
    subst (λ (xs : List Item). All known xs) (take-append_seam items next) (All-take known (length items) (items ++ next) rest)

-- the lines of the files below one, and then a part of those of this one
pub files_part : {S : Type 0} (wrote : S → List ℕ → S → Type 0) (on : (s t u : S) (xs ys : List ℕ) → wrote s xs t → wrote t ys u → wrote s (xs ++ ys) u) (style : Style) (plan : Planned) (file : ℕ) (s t u : S) (fault : ReaderFault) → file < files_of plan → wrote s (listing_to_by style plan file) t → WrotePart wrote t fault (file_lines_by style plan file) u → WrotePrefix wrote s (listing_by style plan) u
files_part wrote on style plan file s t u fault below w part = (
  listing_to_by style plan file ++ part.front,
  prefix_then (listing_to_by style plan file ++ part.front) (listing_to_by style plan (suc file)) (listing_by style plan)
      (prefix_behind (listing_to_by style plan file) part.front (file_lines_by style plan file) part.prefix) (listing_rises style plan (suc file) (files_of plan) (omega arith)),
  on s t u (listing_to_by style plan file) part.front w part.written,
)

-- the lines of the files below the next one
pub files_on : {S : Type 0} (wrote : S → List ℕ → S → Type 0) (on : (s t u : S) (xs ys : List ℕ) → wrote s xs t → wrote t ys u → wrote s (xs ++ ys) u) (style : Style) (plan : Planned) (file : ℕ) (s t u : S) → wrote s (listing_to_by style plan file) t → wrote t (file_lines_by style plan file) u → wrote s (listing_to_by style plan (file + 1)) u
files_on wrote on style plan file s t u w more =
    subst (λ (n : ℕ). wrote s (listing_to_by style plan n) u) (sym (add-one file)) (on s t u (listing_to_by style plan file) (file_lines_by style plan file) w more)
