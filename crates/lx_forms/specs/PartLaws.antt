-- A line is its prefix and the rest.
use Rattle.std.proofs.Common.{◌≡◌, ℕ, Bool, true, false, if◌then◌else◌, List, [], ◌∷◌, ◌++◌, refl, sym, ◌∙◌, ap, append_assoc, append-nil}
use Rattle.std.specs.Prelude.{codes, decimal}
use Rattle.std.specs.List.{flat_map}
use Rattle.std.specs.Str.{is_utf8}
use Rattle.lx_scan.specs.declared.item.Item.{Item}
use Rattle.lx_scan.specs.declared.item.Item.TheVariants.{Token, Echo}
use Rattle.lx_scan.specs.ItemParts.{kind_of_item, len_of, line_of as line_number, start_of}
use Rattle.lx_piece.specs.Plans.{Planned}
use Rattle.lx_line.specs.Escapes.{escaped}
use Rattle.lx_line.specs.Fields.{rest_with as fields_with}
use Rattle.lx_line.specs.Lines.{name_text}
use Rattle.lx_line.specs.Prefixes.{class_and_kind}
use Rattle.lx_line.specs.Styles.{HasParts}
use Rattle.lx_forms.specs.Forms.{PlainForm, passes}
use Rattle.lx_forms.specs.FormListings.{line_with_by}
use Rattle.lx_forms.specs.FormStyles.{PlacesBy, PlacesIn, prefix_by, prefix_in, rest_by, rest_in, style_of}
use Rattle.lx_forms.specs.JsonFields.{json_rest, numbers_text, string_member}
use Rattle.lx_forms.specs.JsonLines.{bytes_member, file_members, json_line_with, kind_value, text_member}
use Rattle.lx_forms.specs.JsonParts.{json_prefix, rest_with}
use Rattle.lx_forms.specs.TextLines.{fields_of, file_text}
use Rattle.lx_forms.specs.declared.format.Format.{Format}
use Rattle.lx_forms.specs.declared.format.Format.TheVariants.{Lines, Json}

-- ---- a line of fields

with_text : (f c k l s n t : List ℕ) →
    ((f ++ 32 ∷ []) ++ (((c ++ 32 ∷ []) ++ k) ++ 32 ∷ [])) ++ ((l ++ 32 ∷ []) ++ ((s ++ 32 ∷ []) ++ ((n ++ 32 ∷ []) ++ (flat_map escaped t ++ 10 ∷ []))))
    ≡ (((f ++ 32 ∷ []) ++ ((((((((c ++ 32 ∷ []) ++ k) ++ 32 ∷ []) ++ l) ++ 32 ∷ []) ++ s) ++ 32 ∷ []) ++ n)) ++ (32 ∷ [] ++ flat_map escaped t)) ++ 10 ∷ []
with_text f c k l s n t = simp append_assoc

without_text : (f c k l s n : List ℕ) →
    ((f ++ 32 ∷ []) ++ (((c ++ 32 ∷ []) ++ k) ++ 32 ∷ [])) ++ ((l ++ 32 ∷ []) ++ ((s ++ 32 ∷ []) ++ (n ++ 10 ∷ [])))
    ≡ (((f ++ 32 ∷ []) ++ ((((((((c ++ 32 ∷ []) ++ k) ++ 32 ∷ []) ++ l) ++ 32 ∷ []) ++ s) ++ 32 ∷ []) ++ n)) ++ []) ++ 10 ∷ []
without_text f c k l s n = simp (append_assoc, append-nil)

joined : (printed : Bool) (f : List ℕ) (plan : Planned) (item : Item) (text : List ℕ) →
    (f ++ codes " " ++ class_and_kind plan (kind_of_item item)) ++ fields_with printed (line_number item) (start_of item) (len_of item) text
    ≡ ((f ++ codes " " ++ fields_of plan item) ++ (if printed then codes " " ++ flat_map escaped text else [])) ++ codes "\n"
joined true f plan (Token line start len kind) text = with_text f (codes "T") (name_text plan kind) (decimal line) (decimal start) (decimal len) text
joined true f plan (Echo line start len) text = with_text f (codes "E") (codes "-") (decimal line) (decimal start) (decimal len) text
joined false f plan (Token line start len kind) text = without_text f (codes "T") (name_text plan kind) (decimal line) (decimal start) (decimal len)
joined false f plan (Echo line start len) text = without_text f (codes "E") (codes "-") (decimal line) (decimal start) (decimal len)

-- ---- a line in JSON

-- the parts of a line, with its prefix by itself
regrouped : (file sort key line s start n len text end : List ℕ) →
    ((file ++ sort) ++ key) ++ ((((((line ++ s) ++ start) ++ n) ++ len) ++ text) ++ end)
    ≡ (((file ++ sort) ++ (((((key ++ line) ++ s) ++ start) ++ n) ++ len)) ++ text) ++ end
regrouped file sort key line s start n len text end = simp append_assoc

pub prefix_and_rest : (form : PlainForm) (plan : Planned) (file : ℕ) (item : Item) (text : List ℕ) → json_prefix form plan file (kind_of_item item) ++ rest_with form item text ≡ json_line_with form plan.table file item text
prefix_and_rest form plan file (Token line start len kind) text =
    regrouped (file_members form file) (codes ",\"kind\":" ++ kind_value plan kind) (codes ",\"line\":") (decimal line) (codes ",\"start\":") (decimal start) (codes ",\"len\":") (decimal len)
    (text_member form text) (codes "}\n")
prefix_and_rest form plan file (Echo line start len) text =
    regrouped (file_members form file) (codes ",\"echo\":true") (codes ",\"line\":") (decimal line) (codes ",\"start\":") (decimal start) (codes ",\"len\":") (decimal len)
    (text_member form text) (codes "}\n")

-- a text that is UTF-8, if texts are printed
member_is : (printed : Bool) (text : List ℕ) → (printed ≡ true → is_utf8 text ≡ true) → string_member printed text ≡ (if printed then bytes_member (codes ",\"text\":") (codes ",\"hex\":") text else [])
member_is false text h = refl
member_is true text h = rw (h refl) refl

-- the rest of a line, with a text that is UTF-8
rest_is : (form : PlainForm) (item : Item) (text : List ℕ) → (form.text ≡ true → is_utf8 text ≡ true) → json_rest form.text (line_number item) (start_of item) (len_of item) text ≡ rest_with form item text
rest_is form item text utf8 =
    let numbers = numbers_text (line_number item) (start_of item) (len_of item) in
    ap (λ (member : List ℕ). numbers ++ (member ++ codes "}\n")) (member_is form.text text utf8)
    ∙ sym (append_assoc numbers (text_member form text) (codes "}\n"))

-- ---- by the format

line_by_parts : (format : Format) (form : PlainForm) (plan : Planned) (file : ℕ) (item : Item) (text : List ℕ) → PlacesBy format form.text text →
    prefix_by format form plan file (kind_of_item item) ++ rest_by format form.text (line_number item) (start_of item) (len_of item) text ≡ line_with_by format form plan.table file item text
line_by_parts Lines form plan file item text places = joined form.text (file_text form file) plan item text
line_by_parts Json form plan file item text places =
    ap (λ (rest : List ℕ). json_prefix form plan file (kind_of_item item) ++ rest) (rest_is form item text places)
    ∙ prefix_and_rest form plan file item text

pub form_parts : (form : PlainForm) → HasParts (prefix_in form) (rest_in form) (passes form) (PlacesIn form) (style_of form)
form_parts form = record {
  parts = λ plan file item text lists places.
      line_by_parts form.format form plan file item text places
      ∙ ap (λ (listed : Bool). if listed then line_with_by form.format form plan.table file item text else []) (sym lists);
  nothing = λ plan file item text lists. ap (λ (listed : Bool). if listed then line_with_by form.format form plan.table file item text else []) lists;
}
