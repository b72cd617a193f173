-- The form without options.
use Rattle.std.proofs.Common.{ℕ, zero, suc, ◌≡◌, Bool, true, false, List, [], ◌∷◌, ◌++◌, refl, ◌∙◌, ap, append_assoc, zero-add}
use Rattle.std.specs.Prelude.{codes, decimal}
use Rattle.std.specs.List.{filter, flat_map}
use Rattle.std.proofs.Math.Path.{ap₂, fun_ext}
use Rattle.lx_scan.specs.declared.item.Item.{Item}
use Rattle.lx_scan.specs.ItemParts.{line_of as line_number, start_of, len_of, text_of}
use Rattle.lx_piece.specs.Plans.{Planned, bytes_of, files_of, is_cut, items_of}
use Rattle.lx_listing.specs.Lines.{class_text, cut_lines, escaped, kind_text, line_of, lines_of}
use Rattle.lx_listing.specs.Listings.{listing_of, listing_to}
use Rattle.lx_forms.specs.Forms.{bare_form, passes}
use Rattle.lx_forms.specs.TextLines.{fields_of, text_cut_line, text_line}
use Rattle.lx_forms.specs.FormListings.{cut_lines_in, line_in, lines_in, listing_to_in, listing_in}

-- the parts of a line, grouped with its fields together and with each one by itself
regrouped : (file s class kind line start len text end : List ℕ) →
    ((((file ++ s) ++ ((((((((class ++ s) ++ kind) ++ s) ++ line) ++ s) ++ start) ++ s) ++ len)) ++ (s ++ text)) ++ end)
    ≡ ((((((((((((file ++ s) ++ class) ++ s) ++ kind) ++ s) ++ line) ++ s) ++ start) ++ s) ++ len) ++ s) ++ text) ++ end
regrouped file s class kind line start len text end = simp append_assoc

line_same : (plan : Planned) (file : ℕ) (item : Item) → line_in bare_form plan file item ≡ line_of plan file item
unfolding text_line
line_same plan file item =
    let text = flat_map escaped (text_of (bytes_of plan file) item) in
    ap (λ (n : ℕ). (((decimal n ++ codes " ") ++ fields_of plan item) ++ (codes " " ++ text)) ++ codes "\n") (zero-add file)
    ∙ regrouped (decimal file) (codes " ") (class_text item) (kind_text plan item) (decimal (line_number item)) (decimal (start_of item)) (decimal (len_of item)) text (codes "\n")

all_pass : (items : List Item) → filter (passes bare_form) items ≡ items
unfolding passes
all_pass [] = refl
all_pass (item ∷ items) = ap (λ rest. item ∷ rest) (all_pass items)

lines_same : (plan : Planned) (file : ℕ) (items : List Item) → lines_in bare_form plan file items ≡ lines_of plan file items
unfolding lines_in
lines_same plan file items =
    ap (λ all. flat_map (line_in bare_form plan file) all) (all_pass items)
    ∙ ap (λ (line : Item → List ℕ). flat_map line items) (fun_ext (line_same plan file))

cut_same : (file : ℕ) (cut : Bool) → cut_lines_in bare_form file cut ≡ cut_lines file cut
unfolding text_cut_line
cut_same file false = refl
cut_same file true = ap (λ (n : ℕ). decimal n ++ codes " ! cut\n") (zero-add file)

listing_same : (plan : Planned) (count : ℕ) → listing_to_in bare_form plan count ≡ listing_to plan count
listing_same plan zero = refl
listing_same plan (suc file) =
    ap₂ (λ (xs ys : List ℕ). xs ++ ys) (listing_same plan file)
    (ap₂ (λ (xs ys : List ℕ). xs ++ ys) (lines_same plan file (items_of plan file)) (cut_same file (is_cut plan file)))

pub bare_is : (plan : Planned) → listing_in bare_form plan ≡ listing_of plan
bare_is plan = listing_same plan (files_of plan)
