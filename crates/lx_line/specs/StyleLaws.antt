-- Lines that are whole, lines of their parts, and lines of texts in the bytes of their file.
use Rattle.std.proofs.Common.{ℕ, ◌+◌, ◌-◌, ◌≡◌, arith, inl, inr, take, drop, List, [], ◌∷◌, ◌++◌, refl, sym, ◌∙◌, ap, subst, append_assoc, append-nil}
use Rattle.std.specs.Prelude.{⊤, All, codes, decimal, true}
use Rattle.std.specs.List.{flat_map}
use Rattle.std.proofs.lemmas.Bool.{true≢false}
use Rattle.std.proofs.lemmas.List.Elements.{All-weaker}
use Rattle.lx_tables.specs.Model.{Table}
use Rattle.lx_scan.specs.declared.item.Item.{Item}
use Rattle.lx_scan.specs.declared.item.Item.TheVariants.{Token, Echo}
use Rattle.lx_scan.specs.ItemParts.{IsItemOf, LiesAt, NamesKindAmong, kind_of_item, len_of, line_of as line_number, start_of, text_at, text_of}
use Rattle.lx_piece.specs.Plans.{Planned, bytes_of}
use Rattle.lx_line.specs.Escapes.{escaped}
use Rattle.lx_line.specs.Fields.{rest_text}
use Rattle.lx_line.specs.Lines.{line_with, name_text}
use Rattle.lx_line.specs.Prefixes.{prefix_text}
use Rattle.lx_line.specs.Styles.{AreWhole, HasParts, HasWholeLines, NeedsText, Style, lines_at, lines_by, plain}

-- whole lines, and then further ones
pub whole_both : (xs ys : List ℕ) → AreWhole xs → AreWhole ys → AreWhole (xs ++ ys)
whole_both xs ys h k = elim k [
  | inl none ↦ subst AreWhole (sym (ap (λ bs. xs ++ bs) none ∙ append-nil xs)) h
  | inr e ↦ inr (xs ++ e.0, ap (λ bs. xs ++ bs) e.1 ∙ sym (append_assoc xs e.0 (10 ∷ [])))
]

pub lines_whole : (style : Style) → HasWholeLines style → (plan : Planned) (file : ℕ) (items : List Item) → AreWhole (lines_by style plan file items)
lines_whole style is plan file [] = inl refl
lines_whole style is plan file (item ∷ items) = whole_both (style.line plan file item) (lines_by style plan file items) (is.line plan file item) (lines_whole style is plan file items)

pub texts_whole : (style : Style) → HasWholeLines style → (table : Table) (file : ℕ) (bytes : List ℕ) (base : ℕ) (items : List Item) → AreWhole (lines_at style table file bytes base items)
texts_whole style is table file bytes base [] = inl refl
texts_whole style is table file bytes base (item ∷ items) =
    whole_both (style.line_with table file item (text_at bytes base item)) (lines_at style table file bytes base items) (is.line_with table file item (text_at bytes base item)) (texts_whole style is table file bytes base items)

pub plain_whole : HasWholeLines plain
plain_whole = record {
  line = λ plan file item. inr (_, refl);
  line_with = λ table file item text. inr (_, refl);
  cut_line = λ file. inr (decimal file ++ codes " ! cut", sym (append_assoc (decimal file) (codes " ! cut") (10 ∷ [])));
}

pub plain_text : NeedsText plain
plain_text = record { line = λ plan file item. refl }

-- ---- a line of its parts

joined : (f l s n t : List ℕ) → f ++ ((l ++ 32 ∷ []) ++ ((s ++ 32 ∷ []) ++ ((n ++ 32 ∷ []) ++ (flat_map escaped t ++ 10 ∷ [])))) ≡ (((((((f ++ l) ++ 32 ∷ []) ++ s) ++ 32 ∷ []) ++ n) ++ 32 ∷ []) ++ flat_map escaped t) ++ 10 ∷ []
joined f l s n t = simp append_assoc

-- class and kind in one, and field by field
fields_of : (f c k : List ℕ) → (f ++ 32 ∷ []) ++ (((c ++ 32 ∷ []) ++ k) ++ 32 ∷ []) ≡ ((((f ++ 32 ∷ []) ++ c) ++ 32 ∷ []) ++ k) ++ 32 ∷ []
fields_of f c k = simp append_assoc

prefix_and_rest : (plan : Planned) (file : ℕ) (item : Item) (text : List ℕ) → prefix_text plan file (kind_of_item item) ++ rest_text (line_number item) (start_of item) (len_of item) text ≡ line_with plan.table file item text
prefix_and_rest plan file (Token line start len kind) text =
    ap (λ (prefix : List ℕ). prefix ++ rest_text line start len text) (fields_of (decimal file) (codes "T") (name_text plan kind))
    ∙ joined (((((decimal file ++ 32 ∷ []) ++ codes "T") ++ 32 ∷ []) ++ name_text plan kind) ++ 32 ∷ []) (decimal line) (decimal start) (decimal len) text
prefix_and_rest plan file (Echo line start len) text =
    ap (λ (prefix : List ℕ). prefix ++ rest_text line start len text) (fields_of (decimal file) (codes "E") (codes "-"))
    ∙ joined (((((decimal file ++ 32 ∷ []) ++ codes "E") ++ 32 ∷ []) ++ codes "-") ++ 32 ∷ []) (decimal line) (decimal start) (decimal len) text

pub plain_parts : HasParts prefix_text rest_text (λ item. true) (λ text. ⊤) plain
plain_parts = record { parts = λ plan file item text lists places. prefix_and_rest plan file item text; nothing = λ plan file item text lists. absurd (true≢false lists) }

-- ---- texts in the bytes of their file

text_here : (bytes : List ℕ) (item : Item) → text_at bytes 0 item ≡ text_of bytes item
text_here bytes item =
    let from : start_of item - 0 ≡ start_of item = omega arith in
    let count : len_of item ≡ start_of item + len_of item - start_of item = omega arith in
    ap (λ (n : ℕ). take (len_of item) (drop n bytes)) from ∙ ap (λ (n : ℕ). take n (drop (start_of item) bytes)) count

-- the lines of items of a file, by its bytes
pub lines_here : (style : Style) → NeedsText style → (plan : Planned) (file : ℕ) (items : List Item) → lines_at style plan.table file (bytes_of plan file) 0 items ≡ lines_by style plan file items
lines_here style needs plan file [] = refl
lines_here style needs plan file (item ∷ items) =
    ap (λ (text : List ℕ). style.line_with plan.table file item text ++ lines_at style plan.table file (bytes_of plan file) 0 items) (text_here (bytes_of plan file) item)
    ∙ ap (λ (line : List ℕ). line ++ lines_at style plan.table file (bytes_of plan file) 0 items) (sym (needs.line plan file item))
    ∙ ap (λ (lines : List ℕ). style.line plan file item ++ lines) (lines_here style needs plan file items)

pub lie_here : (names : List (List ℕ)) (bytes : List ℕ) (items : List Item) → All (IsItemOf names bytes) items → All (LiesAt bytes 0) items
lie_here names bytes items all = All-weaker (IsItemOf names bytes) (LiesAt bytes 0) (λ item is. record { from = omega arith; to = (let h = is.inside in omega arith) }) items all

pub named_here : (names : List (List ℕ)) (bytes : List ℕ) (items : List Item) → All (IsItemOf names bytes) items → All (NamesKindAmong names) items
named_here names bytes items all = All-weaker (IsItemOf names bytes) (NamesKindAmong names) (λ item is. is.named) items all
