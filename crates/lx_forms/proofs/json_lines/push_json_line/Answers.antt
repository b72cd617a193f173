use Rattle.std.proofs.Common.{◌++◌, ◌∙◌, ap}
use Rattle.lx_forms.specs.JsonParts.{json_prefix}
use Rattle.lx_forms.specs.Views.{form_view}
use Rattle.lx_forms.proofs.JsonPlaced.{line_pushed}
use Rattle.lx_forms.proofs.json_lines.push_json_line.Goals as goal

pub returns : goal.returns
returns c =
    let form = form_view c.args.form.now in
    let plan = c.args.plan.now in
    let file = c.args.file in
    let before = c.args.block.now.items in
    line_pushed before c.push_prefix.new.block.items c.push_rest.new.block.items form plan file c.args.item.now c.args.text.now
    (c.in_ok-push_prefix.ensures ∙ ap (λ kind. before ++ json_prefix form plan file kind) c.kind_of.ensures) c.in_ok-push_rest.ensures
