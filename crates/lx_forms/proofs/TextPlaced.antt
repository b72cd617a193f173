-- A line of fields, field by field.
use Rattle.std.proofs.Common.{◌≡◌, ℕ, Bool, true, false, if◌then◌else◌, List, [], ◌++◌, sym, ◌∙◌, ap, append_assoc, append-nil}
use Rattle.std.specs.Prelude.{codes}
use Rattle.std.specs.List.{flat_map}
use Rattle.lx_scan.specs.declared.item.Item.{Item}
use Rattle.lx_piece.specs.Plans.{Planned}
use Rattle.lx_line.specs.Escapes.{escaped}
use Rattle.lx_forms.specs.Forms.{PlainForm}
use Rattle.lx_forms.specs.TextLines.{fields_of, file_text, text_line_with}

pub start_pushed : (form : PlainForm) (plan : Planned) (file : ℕ) (item : Item) (own old a b c d : List ℕ) → form.text ≡ true → a ≡ old ++ file_text form file → b ≡ a ++ codes " " → c ≡ b ++ fields_of plan item → d ≡ c ++ codes " " →
    (d ++ flat_map escaped own) ++ codes "\n" ≡ old ++ text_line_with form plan.table file item own
start_pushed form plan file item own old a b c d text p q r s =
    let shown = flat_map escaped own in
    let f = file_text form file in
    let fields = fields_of plan item in
    let together : (((((old ++ f) ++ codes " ") ++ fields) ++ codes " ") ++ shown) ++ codes "\n" ≡ old ++ ((((f ++ codes " ") ++ fields) ++ (codes " " ++ shown)) ++ codes "\n") = simp append_assoc in
    ap (λ x. (x ++ shown) ++ codes "\n") (s ∙ ap (λ x. x ++ codes " ") (r ∙ ap (λ x. x ++ fields) (q ∙ ap (λ x. x ++ codes " ") p)))
    ∙ together
    ∙ ap (λ (printed : Bool). old ++ ((((f ++ codes " ") ++ fields) ++ (if printed then codes " " ++ shown else [])) ++ codes "\n")) (sym text)

pub line_pushed : (form : PlainForm) (plan : Planned) (file : ℕ) (item : Item) (own old a b c d : List ℕ) → form.text ≡ false → a ≡ old ++ file_text form file → b ≡ a ++ codes " " → c ≡ b ++ fields_of plan item → d ≡ c ++ codes "\n" →
    d ≡ old ++ text_line_with form plan.table file item own
line_pushed form plan file item own old a b c d text p q r s =
    let shown = flat_map escaped own in
    let f = file_text form file in
    let fields = fields_of plan item in
    let together : (((old ++ f) ++ codes " ") ++ fields) ++ codes "\n" ≡ old ++ ((((f ++ codes " ") ++ fields) ++ []) ++ codes "\n") = simp (append_assoc, append-nil) in
    s ∙ ap (λ x. x ++ codes "\n") (r ∙ ap (λ x. x ++ fields) (q ∙ ap (λ x. x ++ codes " ") p))
    ∙ together
    ∙ ap (λ (printed : Bool). old ++ ((((f ++ codes " ") ++ fields) ++ (if printed then codes " " ++ shown else [])) ++ codes "\n")) (sym text)
