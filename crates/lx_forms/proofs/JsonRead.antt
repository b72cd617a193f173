-- JSON lines are the objects of their members.
use Rattle.std.proofs.Common.{◌≡◌, ℕ, ◌+◌, ◌/◌, ◌%◌, Bool, true, false, List, [], ◌∷◌, ◌++◌, None, Some, Option, inl, inr, refl, sym, ap, ◌∙◌, arith, append_assoc, append-nil, decimal, if◌then◌else◌}
use Rattle.std.specs.Prelude.{codes}
use Rattle.std.specs.List.{flat_map}
use Rattle.std.specs.Option.{option_map_or}
use Rattle.std.specs.Str.{is_utf8}
use Rattle.std.proofs.Math.Path.{ap₂}
use Rattle.std.proofs.lemmas.Bool.{cases_lt, le-ltb, lt-ltb}
use Rattle.std.proofs.lemmas.Grind.{flat_map-append}
use Rattle.json.specs.Json.{document}
use Rattle.lx_rules.specs.declared.rule.Kind.TheVariants.{Name, Number}
use Rattle.lx_scan.specs.declared.item.Item.{Item}
use Rattle.lx_scan.specs.declared.item.Item.TheVariants.{Token, Echo}
use Rattle.lx_scan.specs.ItemParts.{line_of as line_number, start_of, len_of, text_of}
use Rattle.lx_piece.specs.Plans.{Planned, bytes_of}
use Rattle.lx_forms.specs.Forms.{PlainForm, name_of, number_in}
use Rattle.lx_forms.specs.JsonLines.{bytes_member, file_members, hex_pair, json_cut_line, json_line, place_members, small_digit, sort_member, string_escaped, string_of, text_member}
use Rattle.lx_forms.specs.JsonValues.{AreSmall, Member, bytes_said, cut_said, file_said, item_said, name_said, object_of, place_said, sort_said, text, text_said, truth}
use Rattle.lx_forms.proofs.JsonDocuments.{more_text, named_text, object_read, object_text}
use Rattle.lx_forms.proofs.JsonStrings.{plain_is}

-- a string shows a digit unescaped
digit_plain : (n : ℕ) → string_escaped (small_digit n) ≡ small_digit n ∷ []
digit_plain n = elim (cases_lt n 10) [
  | inl low ↦ rw (lt-ltb n 10 low) (plain_is (48 + n) (λ e. absurd (omega arith)) (λ e. absurd (omega arith)) (omega arith))
  | inr high ↦ rw (le-ltb n 10 high) (plain_is (87 + n) (λ e. absurd (omega arith)) (λ e. absurd (omega arith)) (omega arith))
]

hex_plain : (bytes : List ℕ) → flat_map string_escaped (flat_map hex_pair bytes) ≡ flat_map hex_pair bytes
hex_plain [] = refl
hex_plain (byte ∷ bytes) =
    let rest = flat_map string_escaped (flat_map hex_pair bytes) in
    ap (λ (xs : List ℕ). xs ++ (string_escaped (small_digit (byte % 16)) ++ rest)) (digit_plain (byte / 16))
    ∙ ap (λ (xs : List ℕ). small_digit (byte / 16) ∷ (xs ++ rest)) (digit_plain (byte % 16))
    ∙ ap (λ (xs : List ℕ). small_digit (byte / 16) ∷ small_digit (byte % 16) ∷ xs) (hex_plain bytes)

-- ---- parts put together

quoted : (l q x : List ℕ) → ((l ++ q) ++ x) ++ q ≡ l ++ ((q ++ x) ++ q)
quoted l q x = simp append_assoc

three : (a x b y c z : List ℕ) → ((((a ++ x) ++ b) ++ y) ++ c) ++ z ≡ (a ++ x) ++ ((b ++ y) ++ ((c ++ z) ++ []))
three a x b y c z = simp (append_assoc, append-nil)

four_behind : (head a b c d end : List ℕ) → ((((head ++ a) ++ b) ++ c) ++ d) ++ end ≡ (head ++ (a ++ (b ++ (c ++ d)))) ++ end
four_behind head a b c d end = simp append_assoc

two_behind : (head a b end : List ℕ) → (head ++ a) ++ (b ++ end) ≡ (head ++ (a ++ b)) ++ end
two_behind head a b end = simp append_assoc

-- ---- members

-- a name and the colon after it, with a comma before
abbrev label : List ℕ → List ℕ
label name = codes "," ++ string_of name ++ codes ":"

bytes_are : (utf8 : Bool) (name hex_name bytes : List ℕ) →
    (if utf8 then label name ++ string_of bytes else label hex_name ++ codes "\"" ++ flat_map hex_pair bytes ++ codes "\"")
    ≡ codes "," ++ named_text (if utf8 then (name, text bytes) else (hex_name, text (flat_map hex_pair bytes)))
bytes_are true name hex_name bytes = refl
bytes_are false name hex_name bytes =
    let hex = flat_map hex_pair bytes in
    quoted (label hex_name) (codes "\"") hex ∙ ap (λ (xs : List ℕ). label hex_name ++ (codes "\"" ++ xs ++ codes "\"")) (sym (hex_plain bytes))

one_more : (m : Member) → codes "," ++ named_text m ≡ more_text (m ∷ [])
one_more m = sym (append-nil (codes "," ++ named_text m))

name_by : (names : Option (List (List ℕ))) (file : ℕ) →
    option_map_or (λ ns. bytes_member (codes ",\"name\":") (codes ",\"name_hex\":") (name_of ns file)) names []
    ≡ more_text (option_map_or (λ ns. bytes_said (codes "name") (codes "name_hex") (name_of ns file) ∷ []) names [])
name_by None file = refl
name_by (Some ns) file =
    bytes_are (is_utf8 (name_of ns file)) (codes "name") (codes "name_hex") (name_of ns file)
    ∙ one_more (bytes_said (codes "name") (codes "name_hex") (name_of ns file))

text_by : (shown : Bool) (bytes : List ℕ) →
    (if shown then bytes_member (codes ",\"text\":") (codes ",\"hex\":") bytes else []) ≡ more_text (if shown then bytes_said (codes "text") (codes "hex") bytes ∷ [] else [])
text_by false bytes = refl
text_by true bytes =
    bytes_are (is_utf8 bytes) (codes "text") (codes "hex") bytes
    ∙ one_more (bytes_said (codes "text") (codes "hex") bytes)

sort_is : (plan : Planned) (item : Item) → sort_member plan item ≡ codes "," ++ named_text (sort_said plan item)
sort_is plan (Token line start len (Name place)) = refl
sort_is plan (Token line start len (Number number)) = refl
sort_is plan (Echo line start len) = refl

place_is : (item : Item) → place_members item ≡ more_text (place_said item)
place_is item = three (codes ",\"line\":") (decimal (line_number item)) (codes ",\"start\":") (decimal (start_of item)) (codes ",\"len\":") (decimal (len_of item))

-- members after others
more_both : (xs ys : List Member) → more_text (xs ++ ys) ≡ more_text xs ++ more_text ys
more_both xs ys = flat_map-append (λ (m : Member). codes "," ++ named_text m) xs ys

line_is : (form : PlainForm) (plan : Planned) (file : ℕ) (item : Item) → json_line form plan file item
    ≡ object_text (file_said form file) (name_said form file ++ (sort_said plan item ∷ (place_said item ++ text_said form (text_of (bytes_of plan file) item))))
unfolding json_line
line_is form plan file item =
    let bytes = text_of (bytes_of plan file) item in
    let head = codes "{\"file\":" ++ decimal (number_in form file) in
    let name = more_text (name_said form file) in
    let sort = codes "," ++ named_text (sort_said plan item) in
    let place = more_text (place_said item) in
    let shown = more_text (text_said form bytes) in
    let parts : file_members form file ++ sort_member plan item ++ place_members item ++ text_member form bytes ++ codes "}\n" ≡ head ++ name ++ sort ++ place ++ shown ++ codes "}\n" =
    ap₂ (λ (x y : List ℕ). (head ++ x ++ sort_member plan item ++ place_members item ++ y) ++ codes "}\n") (name_by form.names file) (text_by form.text bytes)
    ∙ ap₂ (λ (x y : List ℕ). (head ++ name ++ x ++ y ++ shown) ++ codes "}\n") (sort_is plan item) (place_is item) in
    let members : name ++ (sort ++ (place ++ shown)) ≡ more_text (name_said form file ++ (sort_said plan item ∷ (place_said item ++ text_said form bytes))) =
    ap (λ (x : List ℕ). name ++ (sort ++ x)) (sym (more_both (place_said item) (text_said form bytes)))
    ∙ sym (more_both (name_said form file) (sort_said plan item ∷ (place_said item ++ text_said form bytes))) in
    parts ∙ four_behind head name sort place shown (codes "}\n") ∙ ap (λ (x : List ℕ). head ++ x ++ codes "}\n") members

cut_line_is : (form : PlainForm) (file : ℕ) → json_cut_line form file ≡ object_text (file_said form file) (name_said form file ++ (codes "cut", truth) ∷ [])
unfolding json_cut_line
cut_line_is form file =
    let head = codes "{\"file\":" ++ decimal (number_in form file) in
    let name = more_text (name_said form file) in
    let cut = (codes "cut", truth) ∷ [] in
    ap (λ (x : List ℕ). head ++ x ++ codes ",\"cut\":true}\n") (name_by form.names file)
    ∙ two_behind head name (more_text cut) (codes "}\n")
    ∙ ap (λ (x : List ℕ). head ++ x ++ codes "}\n") (sym (more_both (name_said form file) cut))

pub item_read : (form : PlainForm) (plan : Planned) (file : ℕ) (item : Item) → AreSmall (item_said form plan file item) → document (json_line form plan file item) ≡ Some (object_of (item_said form plan file item))
item_read form plan file item small =
    ap document (line_is form plan file item)
    ∙ object_read (file_said form file) (name_said form file ++ (sort_said plan item ∷ (place_said item ++ text_said form (text_of (bytes_of plan file) item)))) small.0 small.1

pub cut_read : (form : PlainForm) (file : ℕ) → AreSmall (cut_said form file) → document (json_cut_line form file) ≡ Some (object_of (cut_said form file))
cut_read form file small = ap document (cut_line_is form file) ∙ object_read (file_said form file) (name_said form file ++ (codes "cut", truth) ∷ []) small.0 small.1
