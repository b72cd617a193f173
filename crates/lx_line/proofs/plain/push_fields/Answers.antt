use Rattle.std.proofs.Common.{[], ◌++◌, refl, sym, append-nil, decimal}
use Rattle.std.specs.Prelude.{codes}
use Rattle.lx_scan.specs.ItemParts.{line_of as line_number, start_of, len_of}
use Rattle.lx_line.specs.Lines.{class_text, kind_text}
use Rattle.lx_line.proofs.Behind.{behind_two, number_behind}
use Rattle.lx_line.proofs.plain.push_fields.Goals as goal

-- field by field
pub returns : goal.returns
returns c =
    let plan = c.args.plan.now in
    let file = c.args.file in
    let item = c.args.item.now in
    let old = c.args.block.now.items in
    let one = decimal file ++ codes " " in
    let two = one ++ class_text item ++ codes " " ++ kind_text plan item ++ codes " " in
    let three = two ++ decimal (line_number item) ++ codes " " in
    let four = three ++ decimal (start_of item) ++ codes " " in
    let a = number_behind old [] old c.push_field.new.line.items c.from.result file c.from.ensures (sym (append-nil old)) c.in_ok-push_field.ensures in
    let mid = c.push_field.new.line.items ++ class_text item ++ codes " " in
    let b = behind_two old (one ++ class_text item ++ codes " ") (kind_text plan item) (codes " ") mid c.push_kind.new.line.items (behind_two old one (class_text item) (codes " ") c.push_field.new.line.items mid a refl) c.in_ok-push_kind.ensures in
    let d = number_behind old two c.push_kind.new.line.items c.push_field-2.new.line.items c.numbers_of-numbers.result.line (line_number item) c.numbers_of-numbers.ensures.line b c.in_ok-push_field-2.ensures in
    let e = number_behind old three c.push_field-2.new.line.items c.push_field-3.new.line.items c.numbers_of-numbers.result.start (start_of item) c.numbers_of-numbers.ensures.start d c.in_ok-push_field-3.ensures in
    number_behind old four c.push_field-3.new.line.items c.push_field-4.new.line.items c.numbers_of-numbers.result.len (len_of item) c.numbers_of-numbers.ensures.len e c.in_ok-push_field-4.ensures
