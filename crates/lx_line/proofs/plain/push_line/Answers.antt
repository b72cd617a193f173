use Rattle.std.proofs.Common.{◌∙◌, ap, sym}
use Rattle.lx_scan.specs.ItemParts.{text_of}
use Rattle.lx_line.proofs.Behind.{ok_as}
use Rattle.lx_line.proofs.plain.push_line.Goals as goal

pub returns : goal.returns
returns g c =
    let style = g.L.LineStyle.style c.args.style.now in
    let plan = c.args.plan.now in
    let file = c.args.file in
    let item = c.args.item.now in
    let text = c.text.ensures ∙ ap (λ bytes. text_of bytes item) c.bytes.ensures in
    ok_as c.push_line_with.result c.args.block.now.items (style.line_with plan.table file item c.text.result.now) (style.line plan file item) c.push_line_with.new.block.items
    (ap (style.line_with plan.table file item) text ∙ sym ((g.met.L.LineStyle.by_text c.args.style.now).line plan file item)) c.push_line_with.ensures
