-- A line in JSON, field by field.
use Rattle.std.proofs.Common.{◌≡◌, ℕ, List, ◌++◌, ◌∙◌, ap, append_assoc}
use Rattle.lx_scan.specs.declared.item.Item.{Item}
use Rattle.lx_scan.specs.ItemParts.{kind_of_item}
use Rattle.lx_piece.specs.Plans.{Planned}
use Rattle.lx_forms.specs.Forms.{PlainForm}
use Rattle.lx_forms.specs.JsonLines.{json_line_with}
use Rattle.lx_forms.specs.JsonParts.{json_prefix, rest_with}
use Rattle.lx_forms.specs.PartLaws.{prefix_and_rest}

-- both after other bytes
pub line_pushed : (before q new : List ℕ) (form : PlainForm) (plan : Planned) (file : ℕ) (item : Item) (text : List ℕ) → q ≡ before ++ json_prefix form plan file (kind_of_item item) → new ≡ q ++ rest_with form item text →
    new ≡ before ++ json_line_with form plan.table file item text
line_pushed before q new form plan file item text p r =
    r
    ∙ ap (λ (bytes : List ℕ). bytes ++ rest_with form item text) p
    ∙ append_assoc before (json_prefix form plan file (kind_of_item item)) (rest_with form item text)
    ∙ ap (λ (bytes : List ℕ). before ++ bytes) (prefix_and_rest form plan file item text)
