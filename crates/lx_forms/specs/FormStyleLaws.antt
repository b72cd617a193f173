-- Laws of the style of a form.
use Rattle.std.proofs.Common.{ℕ, zero, suc, ◌≡◌, Bool, true, false, inl, inr, List, [], ◌∷◌, ◌++◌, refl, sym, ◌∙◌, ap, subst, append_assoc, if◌then◌else◌}
use Rattle.std.specs.Prelude.{codes}
use Rattle.std.specs.List.{filter, flat_map}
use Rattle.std.proofs.Math.Path.{ap₂}
use Rattle.lx_tables.specs.Model.{Table}
use Rattle.lx_scan.specs.declared.item.Item.{Item}
use Rattle.lx_scan.specs.ItemParts.{text_of}
use Rattle.lx_piece.specs.Plans.{Planned, bytes_of, files_of, is_cut, items_of}
use Rattle.lx_line.specs.Styles.{AreWhole, HasWholeLines, NeedsText, lines_by}
use Rattle.lx_listing.specs.Lines.{cut_lines_by}
use Rattle.lx_listing.specs.Listings.{listing_by, listing_to_by}
use Rattle.lx_forms.specs.declared.format.Format.{Format}
use Rattle.lx_forms.specs.declared.format.Format.TheVariants.{Lines, Json}
use Rattle.lx_forms.specs.Forms.{PlainForm, passes}
use Rattle.lx_forms.specs.FormListings.{cut_line_by, cut_lines_in, line_by, line_in, line_with_by, lines_in, listing_in, listing_to_in}
use Rattle.lx_forms.specs.FormStyles.{item_line, style_of}
use Rattle.lx_forms.specs.JsonLines.{file_members, json_cut_line, json_line, json_line_with, place_members, sort_member_in, text_member}
use Rattle.lx_forms.specs.TextLines.{file_text, text_cut_line, text_line, text_line_with}

-- ---- the line of an item needs only its text

text_by_text : (form : PlainForm) (plan : Planned) (file : ℕ) (item : Item) → text_line form plan file item ≡ text_line_with form plan.table file item (text_of (bytes_of plan file) item)
unfolding text_line
text_by_text form plan file item = refl

json_by_text : (form : PlainForm) (plan : Planned) (file : ℕ) (item : Item) → json_line form plan file item ≡ json_line_with form plan.table file item (text_of (bytes_of plan file) item)
unfolding json_line
json_by_text form plan file item = refl

line_by_text : (format : Format) (form : PlainForm) (plan : Planned) (file : ℕ) (item : Item) → line_by format form plan file item ≡ line_with_by format form plan.table file item (text_of (bytes_of plan file) item)
line_by_text Lines form plan file item = text_by_text form plan file item
line_by_text Json form plan file item = json_by_text form plan file item

pub form_text : (form : PlainForm) → NeedsText (style_of form)
form_text form = record {
  line = λ plan file item. ap (λ (line : List ℕ). if passes form item then line else []) (line_by_text form.format form plan file item);
}

-- ---- each line is whole

-- a line that ends with a line feed
ends : (front end : List ℕ) → AreWhole (front ++ (end ++ 10 ∷ []))
ends front end = inr (front ++ end, sym (append_assoc front end (10 ∷ [])))

with_whole : (format : Format) (form : PlainForm) (table : Table) (file : ℕ) (item : Item) (text : List ℕ) → AreWhole (line_with_by format form table file item text)
with_whole Lines form table file item text = inr (_, refl)
with_whole Json form table file item text = ends (file_members form file ++ sort_member_in table item ++ place_members item ++ text_member form text) (codes "}")

line_whole : (format : Format) (form : PlainForm) (plan : Planned) (file : ℕ) (item : Item) → AreWhole (line_by format form plan file item)
line_whole format form plan file item = subst AreWhole (sym (line_by_text format form plan file item)) (with_whole format form plan.table file item (text_of (bytes_of plan file) item))

printed_whole : (printed : Bool) (line : List ℕ) → AreWhole line → AreWhole (if printed then line else [])
printed_whole true line whole = whole
printed_whole false line whole = inl refl

text_cut_whole : (form : PlainForm) (file : ℕ) → AreWhole (text_cut_line form file)
unfolding text_cut_line
text_cut_whole form file = ends (file_text form file) (codes " ! cut")

json_cut_whole : (form : PlainForm) (file : ℕ) → AreWhole (json_cut_line form file)
unfolding json_cut_line
json_cut_whole form file = ends (file_members form file) (codes ",\"cut\":true}")

cut_whole : (format : Format) (form : PlainForm) (file : ℕ) → AreWhole (cut_line_by format form file)
cut_whole Lines form file = text_cut_whole form file
cut_whole Json form file = json_cut_whole form file

pub form_whole : (form : PlainForm) → HasWholeLines (style_of form)
form_whole form = record {
  line = λ plan file item. printed_whole (passes form item) (line_in form plan file item) (line_whole form.format form plan file item);
  line_with = λ table file item text. printed_whole (passes form item) (line_with_by form.format form table file item text) (with_whole form.format form table file item text);
  cut_line = λ file. cut_whole form.format form file;
}

-- ---- the listing in the style of a form is that in the form

one_more : (printed : Bool) (line : Item → List ℕ) (item : Item) (rest : List Item) → (if printed then line item else []) ++ flat_map line rest ≡ flat_map line (if printed then item ∷ rest else rest)
one_more true line item rest = refl
one_more false line item rest = refl

lines_same : (form : PlainForm) (plan : Planned) (file : ℕ) (items : List Item) → lines_by (style_of form) plan file items ≡ lines_in form plan file items
unfolding lines_in
lines_same form plan file [] = refl
lines_same form plan file (item ∷ items) =
    ap (λ bytes. item_line form plan file item ++ bytes) (lines_same form plan file items)
    ∙ one_more (passes form item) (line_in form plan file) item (filter (passes form) items)

cut_same : (form : PlainForm) (file : ℕ) (cut : Bool) → cut_lines_by (style_of form) file cut ≡ cut_lines_in form file cut
cut_same form file cut = refl

to_same : (form : PlainForm) (plan : Planned) (count : ℕ) → listing_to_by (style_of form) plan count ≡ listing_to_in form plan count
to_same form plan zero = refl
to_same form plan (suc file) =
    ap₂ (λ (xs ys : List ℕ). xs ++ ys) (to_same form plan file)
    (ap₂ (λ (xs ys : List ℕ). xs ++ ys) (lines_same form plan file (items_of plan file)) (cut_same form file (is_cut plan file)))

pub listing_same : (form : PlainForm) (plan : Planned) → listing_by (style_of form) plan ≡ listing_in form plan
listing_same form plan = to_same form plan (files_of plan)
