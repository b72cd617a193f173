-- Files of two plans that have the same lines in two forms.
use Rattle.std.proofs.Common.{ℕ, ◌≡◌, Bool, true, List, [], ◌++◌, Option, refl, ◌∙◌, ap, if◌then◌else◌}
use Rattle.std.specs.Prelude.{codes}
use Rattle.std.specs.List.{filter, flat_map}
use Rattle.std.specs.Option.{option_map_or}
use Rattle.std.proofs.Math.Path.{ap₂, fun_ext}
use Rattle.lx_rules.specs.declared.rule.Kind.TheVariants.{Name, Number}
use Rattle.lx_tables.specs.Model.{Table, kind_at}
use Rattle.lx_scan.specs.declared.item.Item.{Item}
use Rattle.lx_scan.specs.declared.item.Item.TheVariants.{Token, Echo}
use Rattle.lx_scan.specs.ItemParts.{text_of}
use Rattle.lx_scan.specs.Items as scan
use Rattle.lx_piece.specs.Plans.{PlainInput, Planned, bytes_of, input_of, is_cut, items_of}
use Rattle.lx_line.specs.Lines.{kind_text}
use Rattle.lx_line.specs.Escapes.{escaped}
use Rattle.lx_forms.specs.declared.format.Format.{Format}
use Rattle.lx_forms.specs.declared.format.Format.TheVariants.{Lines, Json}
use Rattle.lx_forms.specs.Forms.{PlainForm, Selected, is_selected, passes}
use Rattle.lx_forms.specs.TextLines.{fields_of, file_text, text_cut_line, text_line, text_part}
use Rattle.lx_forms.specs.JsonLines.{file_members, json_cut_line, json_line, place_members, sort_member, text_member}
use Rattle.lx_forms.specs.FormListings.{cut_line_by, cut_lines_in, file_lines_in, line_in, lines_in, line_by}

-- one form prints a file as another prints another file
pub record PrintsAlike (form : PlainForm) (file : ℕ) (other : PlainForm) (file' : ℕ) : Type 0 where
  pub text : file_text form file ≡ file_text other file'
  pub members : file_members form file ≡ file_members other file'
  pub only : form.only ≡ other.only
  pub texts : form.text ≡ other.text
  pub format : form.format ≡ other.format

-- a file of one plan is a file of another, by the same tables
pub record IsSameFile (plan : Planned) (file : ℕ) (other : Planned) (file' : ℕ) : Type 0 where
  pub table : plan.table ≡ other.table
  pub input : input_of plan file ≡ input_of other file'

kind_same : (plan other : Planned) (item : Item) → plan.table ≡ other.table → kind_text plan item ≡ kind_text other item
kind_same plan other (Token line start len (Name place)) e = ap (λ (t : Table). kind_at t place) e
kind_same plan other (Token line start len (Number number)) e = refl
kind_same plan other (Echo line start len) e = refl

sort_same : (plan other : Planned) (item : Item) → plan.table ≡ other.table → sort_member plan item ≡ sort_member other item
sort_same plan other (Token line start len (Name place)) e = ap (λ (t : Table). sort_member (record plan { table = t }) (Token line start len (Name place))) e
sort_same plan other (Token line start len (Number number)) e = refl
sort_same plan other (Echo line start len) e = refl

-- with the same parts
five : (a b c d a' b' c' d' e : List ℕ) → a ≡ a' → b ≡ b' → c ≡ c' → d ≡ d' → (((a ++ b) ++ c) ++ d) ++ e ≡ (((a' ++ b') ++ c') ++ d') ++ e
five a b c d a' b' c' d' e p q r s =
    ap₂ (λ (x y : List ℕ). (x ++ y) ++ e)
    (ap₂ (λ (x y : List ℕ). x ++ y) (ap₂ (λ (x y : List ℕ). x ++ y) p q) r) s

module _ (form other : PlainForm) (plan plan' : Planned) (file file' : ℕ) (alike : PrintsAlike form file other file') (same : IsSameFile plan file plan' file') where
  bytes_same : bytes_of plan file ≡ bytes_of plan' file'
  bytes_same = ap (λ (i : PlainInput). i.bytes) same.input

  text_same : (item : Item) → text_of (bytes_of plan file) item ≡ text_of (bytes_of plan' file') item
  text_same item = ap (λ bytes. text_of bytes item) bytes_same

  text_line_same : (item : Item) → text_line form plan file item ≡ text_line other plan' file' item
  unfolding text_line
  text_line_same item =
      let fields : fields_of plan item ≡ fields_of plan' item = rw (kind_same plan plan' item same.table) refl in
      let part : text_part form (text_of (bytes_of plan file) item) ≡ text_part other (text_of (bytes_of plan' file') item) =
      ap₂ (λ (b : Bool) (text : List ℕ). if b then codes " " ++ flat_map escaped text else []) alike.texts (text_same item) in
      five (file_text form file) (codes " ") (fields_of plan item) (text_part form (text_of (bytes_of plan file) item)) (file_text other file') (codes " ") (fields_of plan' item) (text_part other (text_of (bytes_of plan' file') item)) (codes "\n") alike.text refl fields part

  json_line_same : (item : Item) → json_line form plan file item ≡ json_line other plan' file' item
  unfolding json_line
  json_line_same item =
      let part : text_member form (text_of (bytes_of plan file) item) ≡ text_member other (text_of (bytes_of plan' file') item) =
      ap₂ (λ (b : Bool) (text : List ℕ). text_member (record form { text = b }) text) alike.texts (text_same item) in
      five (file_members form file) (sort_member plan item) (place_members item) (text_member form (text_of (bytes_of plan file) item)) (file_members other file') (sort_member plan' item) (place_members item) (text_member other (text_of (bytes_of plan' file') item)) (codes "}\n") alike.members (sort_same plan plan' item same.table) refl part

  line_by_same : (format : Format) (item : Item) → line_by format form plan file item ≡ line_by format other plan' file' item
  line_by_same Lines item = text_line_same item
  line_by_same Json item = json_line_same item

  line_same : (item : Item) → line_in form plan file item ≡ line_in other plan' file' item
  line_same item = line_by_same form.format item ∙ ap (λ (f : Format). line_by f other plan' file' item) alike.format

  passes_same : (item : Item) → passes form item ≡ passes other item
  unfolding passes
  passes_same item = ap (λ (o : Option Selected). option_map_or (λ s. is_selected s item) o true) alike.only

  lines_same : (items : List Item) → lines_in form plan file items ≡ lines_in other plan' file' items
  unfolding lines_in
  lines_same items = ap₂ (λ (line : Item → List ℕ) (test : Item → Bool). flat_map line (filter test items)) (fun_ext line_same) (fun_ext passes_same)

  cut_line_same : (format : Format) → cut_line_by format form file ≡ cut_line_by format other file'
  unfolding text_cut_line json_cut_line
  cut_line_same Lines = ap (λ (head : List ℕ). head ++ codes " ! cut\n") alike.text
  cut_line_same Json = ap (λ (head : List ℕ). head ++ codes ",\"cut\":true}\n") alike.members

  cut_same : (cut : Bool) → cut_lines_in form file cut ≡ cut_lines_in other file' cut
  cut_same cut = ap (λ (line : List ℕ). if cut then line else []) (cut_line_same form.format ∙ ap (λ (f : Format). cut_line_by f other file') alike.format)

  pub file_same : file_lines_in form plan file ≡ file_lines_in other plan' file'
  file_same =
      let items : items_of plan file ≡ items_of plan' file' = ap₂ (λ (t : Table) (i : PlainInput). scan.items_of t i.bytes) same.table same.input in
      ap₂ (λ (xs ys : List ℕ). xs ++ ys)
      (lines_same (items_of plan file) ∙ ap (λ all. lines_in other plan' file' all) items)
      (cut_same (is_cut plan file) ∙ ap (λ (i : PlainInput). cut_lines_in other file' i.cut) same.input)
