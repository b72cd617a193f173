-- The selection of `--only`, in the words of the listing.
use Rattle.std.proofs.Common.{◌≡◌, ℕ, zero, suc, ◌-◌, ◌<◌, ◌↔◌, ◌==◌, Bool, true, false, ◌&&◌, ◌||◌, List, [], ◌∷◌, length, refl, sym, ap, ◌∙◌, arith, rules, inl, inr, subst}
use Rattle.std.specs.Prelude.{All, Contains, Option, Some, None, decimal, slice_index_or}
use Rattle.std.specs.List.{filter, flat_map, list_any}
use Rattle.std.specs.Option.{option_map_or}
use Rattle.std.specs.Str.{bytes_eq}
use Rattle.std.proofs.lemmas.Bool.{cases_Bool, cases_lt}
use Rattle.std.proofs.lemmas.Bool.Decides.{Decides-eqb}
use Rattle.std.proofs.lemmas.List.{get_or-map}
use Rattle.std.proofs.lemmas.List.Elements.{All-append, All-cons, All-head, All-nil, All-tail, Contains-append_left, Contains-append_right}
use Rattle.std.proofs.Math.ListN.{get_or-eq_default}
use Rattle.std.proofs.lemmas.Map.Views.{any-filter_same}
use Rattle.std.proofs.lemmas.Slice.Eq.{bytes_eq-Decides}
use Rattle.lx_rules.specs.declared.rule.Kind.TheVariants.{Name, Number}
use Rattle.lx_rules.specs.declared.rule.Step.{Step}
use Rattle.lx_rules.specs.declared.rule.Step.TheVariants.{Echo, Begin, Return}
use Rattle.lx_tables.specs.Model.{Table, TableRule, rule_at}
use Rattle.lx_scan.specs.declared.item.Item.{Item}
use Rattle.lx_scan.specs.declared.item.Item.TheVariants.{Token, Echo as Echoed}
use Rattle.lx_scan.specs.declared.place.Place.{Place}
use Rattle.lx_scan.specs.ItemParts.{IsItemOf}
use Rattle.lx_scan.specs.Items as scan
use Rattle.lx_scan.specs.Items.{choice_at, first_place, items_at, items_from, len_at, place_after, steps_at}
use Rattle.lx_scan.specs.Steps.{items_of_steps}
use Rattle.lx_piece.specs.Plans.{Planned, IsPlan, bytes_of, items_of, kinds_of}
use Rattle.lx_line.specs.Lines.{kind_text}
use Rattle.lx_forms.specs.Choosing.{HasKindOf, HasReturnedNumber, is_one_of, number_of_step, numbers_of, numbers_of_rule, selected_by, stands_by_one_of}
use Rattle.lx_forms.specs.Forms.{PlainForm, Selected, is_selected, passes}
use Rattle.lx_forms.specs.FormListings.{line_in, lines_in}

-- a number of a list is found there
or_true : (b c : Bool) → c ≡ true → (b || c) ≡ true
or_true true c e = refl
or_true false c e = e

and_true : (b : Bool) → (b && true) ≡ b
and_true true = refl
and_true false = refl

number_found : (ns : List ℕ) (n : ℕ) → Contains ns n → list_any (λ m. m == n) ns ≡ true
number_found [] n (k, l, e) = absurd (omega (arith, l))
number_found (m ∷ ms) n (zero, l, e) = ap (λ (b : Bool). b || list_any (λ m. m == n) ms) ((Decides-eqb m n).1 e)
number_found (m ∷ ms) n (suc k, l, e) = or_true (m == n) (list_any (λ m. m == n) ms) (number_found ms n (k, omega (arith, l), e))

-- a text is one of a list exactly if the list contains it
one_of_contains : (words : List (List ℕ)) (text : List ℕ) → Contains words text → is_one_of words text ≡ true
one_of_contains [] text (k, l, e) = absurd (omega (arith, l))
one_of_contains (word ∷ words) text (zero, l, e) = ap (λ (b : Bool). b || is_one_of words text) ((bytes_eq-Decides word text).1 e)
one_of_contains (word ∷ words) text (suc k, l, e) = or_true (bytes_eq word text) (is_one_of words text) (one_of_contains words text (k, omega (arith, l), e))

contains_behind : (word : List ℕ) (words : List (List ℕ)) (text : List ℕ) → Contains words text → Contains (word ∷ words) text
contains_behind word words text (k, l, e) = (suc k, omega (arith, l), e)

contains_one_of : (words : List (List ℕ)) (text : List ℕ) → is_one_of words text ≡ true → Contains words text
contains_one_of [] text e = absurd (search rules)
contains_one_of (word ∷ words) text e = elim (cases_Bool (bytes_eq word text)) [
  | inl same ↦ (0, omega arith, (bytes_eq-Decides word text).0 same)
  | inr other ↦ contains_behind word words text (contains_one_of words text (sym (ap (λ (b : Bool). b || is_one_of words text) other) ∙ e))
]

-- words select the items that the listing shows by one of them
selected_is : (plan : Planned) (words : List (List ℕ)) (item : Item) → HasKindOf plan.table item → is_selected (selected_by plan.table words) item ≡ is_one_of words (kind_text plan item)
selected_is plan words (Token line start len (Name place)) h = get_or-map (is_one_of words) plan.table.kinds place [] false h.named
selected_is plan words (Token line start len (Number number)) h =
    let numbers = numbers_of plan.table in
    any-filter_same (λ m. m == number) (λ m. is_one_of words (decimal m)) (is_one_of words (decimal number)) (λ m e. ap (λ (k : ℕ). is_one_of words (decimal k)) ((Decides-eqb m number).0 e)) numbers
    ∙ ap (λ (b : Bool). is_one_of words (decimal number) && b) (number_found numbers number h.returned)
    ∙ and_true (is_one_of words (decimal number))
selected_is plan words (Echoed line start len) h = refl

pub selected_by_words : (plan : Planned) (words : List (List ℕ)) (item : Item) → HasKindOf plan.table item → (is_selected (selected_by plan.table words) item ≡ true) ↔ Contains words (kind_text plan item)
selected_by_words plan words item h =
    let same = selected_is plan words item h in
    (λ e. contains_one_of words (kind_text plan item) (sym same ∙ e), λ c. same ∙ one_of_contains words (kind_text plan item) c)

-- a number that a step of a rule returns is one of the tables
in_rule : (rules : List TableRule) (r : ℕ) (d : TableRule) (n : ℕ) → r < length rules → Contains (numbers_of_rule (slice_index_or rules r d)) n → Contains (flat_map numbers_of_rule rules) n
in_rule [] r d n l c = absurd (omega arith)
in_rule (rule ∷ rules) zero d n l c = Contains-append_left (numbers_of_rule rule) (flat_map numbers_of_rule rules) n c
in_rule (rule ∷ rules) (suc r) d n l c = Contains-append_right (numbers_of_rule rule) (flat_map numbers_of_rule rules) n (in_rule rules r d n (omega arith) c)

-- the numbers that steps return are the tables'
abbrev AreOf : Table → List Step → Type 0
AreOf table steps = (n : ℕ) → Contains (flat_map number_of_step steps) n → Contains (numbers_of table) n

none_contained : (n : ℕ) → Contains [] n → ⊥
none_contained n (k, l, e) = absurd (omega (arith, l))

rule_is_of : (table : Table) (r : ℕ) → AreOf table (rule_at table r).steps
rule_is_of table r = λ n c. elim (cases_lt r (length table.rules)) [
  | inl within ↦ in_rule table.rules r (record { line_end = false; steps = [] }) n within c
  | inr behind ↦ absurd (none_contained n (subst (λ (rule : TableRule). Contains (numbers_of_rule rule) n) (get_or-eq_default table.rules (record { line_end = false; steps = [] }) behind) c))
]

choice_is_of : (table : Table) (choice : Option (ℕ × ℕ)) → AreOf table (steps_at table choice)
choice_is_of table None = λ n c. absurd (none_contained n c)
choice_is_of table (Some found) = rule_is_of table found.0

-- so are those of the items of steps
steps_give : (table : Table) (steps : List Step) (line start len : ℕ) → AreOf table steps → All (HasReturnedNumber table) (items_of_steps steps line start len)
steps_give table [] line start len of = All-nil (HasReturnedNumber table)
steps_give table (Echo ∷ steps) line start len of = All-cons (HasReturnedNumber table) (Echoed line start len) (items_of_steps steps line start len) tt (steps_give table steps line start len of)
steps_give table (Begin next ∷ steps) line start len of = steps_give table steps line start len of
steps_give table (Return (Name place) ∷ steps) line start len of =
    All-cons (HasReturnedNumber table) (Token line start len (Name place)) (items_of_steps steps line start len) tt (steps_give table steps line start len of)
steps_give table (Return (Number number) ∷ steps) line start len of =
    All-cons (HasReturnedNumber table) (Token line start len (Number number)) (items_of_steps steps line start len) (of number (0, omega arith, refl))
    (steps_give table steps line start len (λ n c. of n (Contains-append_right (number ∷ []) (flat_map number_of_step steps) n c)))

text_gives : (table : Table) (text : List ℕ) (taken : ℕ) (place : Place) → All (HasReturnedNumber table) (items_from table text taken place)
text_gives table [] taken place = All-nil (HasReturnedNumber table)
text_gives table (byte ∷ rest) (suc taken) place = text_gives table rest taken place
text_gives table (byte ∷ rest) zero place =
    let choice = choice_at table (byte ∷ rest) place in
    All-append (HasReturnedNumber table) (items_at table place choice) (items_from table rest (len_at choice - 1) (place_after table (byte ∷ rest) place choice))
    (steps_give table (steps_at table choice) place.line place.offset (len_at choice) (choice_is_of table choice))
    (text_gives table rest (len_at choice - 1) (place_after table (byte ∷ rest) place choice))

file_gives : (plan : Planned) (file : ℕ) → All (HasReturnedNumber plan.table) (items_of plan file)
unfolding scan.items_of
file_gives plan file = text_gives plan.table (bytes_of plan file) 0 first_place

both : (plan : Planned) (file : ℕ) (items : List Item) → All (IsItemOf (kinds_of plan) (bytes_of plan file)) items → All (HasReturnedNumber plan.table) items → All (HasKindOf plan.table) items
both plan file items a b = λ k d l. record { named = (a k d l).named; returned = b k d l }

pub all_have_kinds : (plan : Planned) (file : ℕ) → IsPlan plan → All (HasKindOf plan.table) (items_of plan file)
all_have_kinds plan file p = both plan file (items_of plan file) (p.items file) (file_gives plan file)

-- tests that agree on all of a list keep the same of it
filter_alike : (p q : Item → Bool) (items : List Item) → All (λ item. p item ≡ q item) items → filter p items ≡ filter q items
filter_alike p q [] h = refl
filter_alike p q (item ∷ items) h = rw (All-head (λ (i : Item). p i ≡ q i) item items h, filter_alike p q items (All-tail (λ (i : Item). p i ≡ q i) item items h)) refl

passes_by : (form : PlainForm) (plan : Planned) (words : List (List ℕ)) (item : Item) → form.only ≡ Some (selected_by plan.table words) → HasKindOf plan.table item → passes form item ≡ stands_by_one_of plan words item
unfolding passes
passes_by form plan words item only h =
    ap (λ (o : Option Selected). option_map_or (λ selected. is_selected selected item) o true) only ∙ selected_is plan words item h

pub lines_by_words : (form : PlainForm) (plan : Planned) (words : List (List ℕ)) (file : ℕ) → IsPlan plan → form.only ≡ Some (selected_by plan.table words) →
    lines_in form plan file (items_of plan file) ≡ flat_map (line_in form plan file) (filter (stands_by_one_of plan words) (items_of plan file))
unfolding lines_in
lines_by_words form plan words file p only =
    let items = items_of plan file in
    let kinds = all_have_kinds plan file p in
    ap (λ (some : List Item). flat_map (line_in form plan file) some) (filter_alike (passes form) (stands_by_one_of plan words) items (λ k d l. passes_by form plan words (slice_index_or items k d) only (kinds k d l)))
