-- The items of a match whose action gives at most one.
use Rattle.std.proofs.Common.{◌≡◌, ℕ, ◌+◌, ◌-◌, ◌<◌, ◌≤◌, Bool, true, false, nat_eq, if◌then◌else◌, List, [], ◌∷◌, ◌++◌, Option, Some, None, length, inl, inr, refl, sym, ap, ◌∙◌, arith, add-zero, append-nil, append_assoc}
use Rattle.std.specs.Prelude.{slice_index, slice_set, take}
use Rattle.std.proofs.lemmas.Bool.{cases_lt, eqb-false, eqb-true}
use Rattle.std.proofs.lemmas.List.{take-set, take_more_set}
use Rattle.lx_rules.specs.declared.rule.Kind.{Kind}
use Rattle.lx_rules.specs.declared.rule.Step.{Step}
use Rattle.lx_rules.specs.declared.rule.Step.TheVariants.{Echo, Begin, Return}
use Rattle.lx_tables.specs.Joined.{AreLabels, echoed, giving, item_count}
use Rattle.lx_tables.specs.Labels.{kind_of_label, step_of_kind, step_of_label}
use Rattle.lx_tables.specs.Model.{Table}
use Rattle.lx_scan.specs.declared.ends.End.{End}
use Rattle.lx_scan.specs.declared.item.Item.{Item}
use Rattle.lx_scan.specs.Cursors.{item_of_step, listed}
use Rattle.lx_scan.specs.Ends.{IsEnd, items_of_ends, steps_of_code, steps_of_rule}
use Rattle.lx_scan.specs.ItemParts.{item_of_kind, kind_of_item, len_of, line_of, start_of}
use Rattle.lx_scan.specs.Steps.{items_of_steps}

none_given : (steps : List Step) (line start len : ℕ) → item_count steps ≤ 0 → items_of_steps steps line start len ≡ []
none_given [] line start len h = refl
none_given (Echo ∷ steps) line start len h = absurd (omega arith)
none_given (Begin next ∷ steps) line start len h = none_given steps line start len h
none_given (Return kind ∷ steps) line start len h = absurd (omega arith)

abbrev items_given : Option Step → ℕ → ℕ → ℕ → List Item
items_given None line start len = []
items_given (Some step) line start len = listed (item_of_step step line start len)

one_given : (steps : List Step) (line start len : ℕ) → item_count steps ≤ 1 → items_of_steps steps line start len ≡ items_given (giving steps) line start len
one_given [] line start len h = refl
one_given (Echo ∷ steps) line start len h = ap (λ xs. listed (item_of_step Echo line start len) ++ xs) (none_given steps line start len (omega arith))
one_given (Begin next ∷ steps) line start len h = one_given steps line start len h
one_given (Return kind ∷ steps) line start len h = ap (λ xs. listed (item_of_step (Return kind) line start len) ++ xs) (none_given steps line start len (omega arith))

-- the label kept of a code is the item that its steps give
given_is : (table : Table) (labels : List ℕ) (code : ℕ) → AreLabels table labels → 0 < code → code ≤ echoed table → step_of_label (slice_index labels code) ≡ giving (steps_of_code table code)
given_is table labels code are some known = on (nat_eq code (echoed table)) refl
  where
    below : (code ≡ echoed table → ⊥) → code - 1 < length table.rules
    below ne = elim (cases_lt code (echoed table)) [ inl l ↦ omega arith | inr l ↦ absurd (ne (omega arith)) ]

    on : (b : Bool) → nat_eq code (echoed table) ≡ b → step_of_label (slice_index labels code) ≡ giving (steps_of_rule table (if b then None else Some (code - 1)))
    on true e = ap (λ n. step_of_label (slice_index labels n)) (eqb-true code (echoed table) e) ∙ are.echo
    on false e =
        let ne = eqb-false code (echoed table) e in
        let one : code ≡ code - 1 + 1 = omega arith in
        ap (λ n. step_of_label (slice_index labels n)) one ∙ are.rules (code - 1) (below ne)

-- the item of a label, if there is one
abbrev items_of_label : ℕ → ℕ → ℕ → ℕ → List Item
items_of_label label line start len = if nat_eq label 0 then [] else item_of_kind (kind_of_label label) line start len ∷ []

label_gives : (label line start len : ℕ) → items_given (step_of_label label) line start len ≡ items_of_label label line start len
label_gives label line start len = on (nat_eq label 0) (kind_of_label label)
  where
    on : (b : Bool) (kind : Option Kind) → items_given (if b then None else Some (step_of_kind kind)) line start len ≡ (if b then [] else item_of_kind kind line start len ∷ [])
    on true kind = refl
    on false None = refl
    on false (Some kind) = refl

-- the items of a match are those of its label
labels_give : (table : Table) (labels : List ℕ) (start line : ℕ) (e : End) → AreLabels table labels → IsEnd table start e →
    items_of_steps (steps_of_code table e.code) line start (e.offset - start) ≡ items_of_label (slice_index labels e.code) line start (e.offset - start)
labels_give table labels start line e are is =
    one_given (steps_of_code table e.code) line start (e.offset - start) is.few
    ∙ ap (λ g. items_given g line start (e.offset - start)) (sym (given_is table labels e.code are is.some is.known))
    ∙ label_gives (slice_index labels e.code) line start (e.offset - start)

-- an item is placed after the first len ones, and counts if there is one
placed : (room : List Item) (len label line start n one : ℕ) → len < length room → one ≡ (if nat_eq label 0 then 0 else 1) →
    take (len + one) (slice_set room len (item_of_kind (kind_of_label label) line start n)) ≡ take len room ++ items_of_label label line start n
placed room len label line start n one more one_is = on (nat_eq label 0) refl
  where
    item : Item
    item = item_of_kind (kind_of_label label) line start n

    on : (b : Bool) → nat_eq label 0 ≡ b → take (len + one) (slice_set room len (item_of_kind (kind_of_label label) line start n)) ≡ take len room ++ items_of_label label line start n
    on true none =
        ap (λ (k : ℕ). take (len + k) (slice_set room len (item_of_kind (kind_of_label label) line start n))) (one_is ∙ ap (λ (b : Bool). if b then 0 else 1) none)
        ∙ ap (λ (k : ℕ). take k (slice_set room len (item_of_kind (kind_of_label label) line start n))) (add-zero len)
        ∙ take-set room len _
        ∙ sym (append-nil (take len room))
        ∙ ap (λ (b : Bool). take len room ++ (if b then [] else item_of_kind (kind_of_label label) line start n ∷ [])) (sym none)
    on false some =
        ap (λ (k : ℕ). take (len + k) (slice_set room len (item_of_kind (kind_of_label label) line start n))) (one_is ∙ ap (λ (b : Bool). if b then 0 else 1) some)
        ∙ take_more_set room len _ more
        ∙ ap (λ (b : Bool). take len room ++ (if b then [] else item_of_kind (kind_of_label label) line start n ∷ [])) (sym some)

-- one more match of those that are left
pub placed_turn : (table : Table) (labels : List ℕ) (room : List Item) (len start line one : ℕ) (e : End) (es : List End) (whole : List Item) → AreLabels table labels → IsEnd table start e → len < length room →
    one ≡ (if nat_eq (slice_index labels e.code) 0 then 0 else 1) → take len room ++ items_of_ends table start line (e ∷ es) ≡ whole →
    take (len + one) (slice_set room len (item_of_kind (kind_of_label (slice_index labels e.code)) line start (e.offset - start))) ++ items_of_ends table e.offset e.line es ≡ whole
placed_turn table labels room len start line one e es whole are is more one_is items =
    ap (λ (xs : List Item). xs ++ items_of_ends table e.offset e.line es)
    (placed room len (slice_index labels e.code) line start (e.offset - start) one more one_is ∙ ap (λ (xs : List Item). take len room ++ xs) (sym (labels_give table labels start line e are is)))
    ∙ append_assoc (take len room) (items_of_steps (steps_of_code table e.code) line start (e.offset - start)) (items_of_ends table e.offset e.line es)
    ∙ items

-- the parts of an item
pub line_is : (kind : Option Kind) (line start len : ℕ) → line_of (item_of_kind kind line start len) ≡ line
line_is None line start len = refl
line_is (Some kind) line start len = refl

pub start_is : (kind : Option Kind) (line start len : ℕ) → start_of (item_of_kind kind line start len) ≡ start
start_is None line start len = refl
start_is (Some kind) line start len = refl

pub len_is : (kind : Option Kind) (line start len : ℕ) → len_of (item_of_kind kind line start len) ≡ len
len_is None line start len = refl
len_is (Some kind) line start len = refl

pub kind_is : (kind : Option Kind) (line start len : ℕ) → kind ≡ kind_of_item (item_of_kind kind line start len)
kind_is None line start len = refl
kind_is (Some kind) line start len = refl
