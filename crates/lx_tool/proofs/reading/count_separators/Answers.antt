use Rattle.std.proofs.Common.{◌≡◌, ◌-◌, ◌∙◌, ap, arith, drop, length, take}
use Rattle.std.proofs.lemmas.List.{length-drop, take_all}
use Rattle.lx_forms.specs.NameLists.{separators}
use Rattle.lx_tool.proofs.ReadOn.{split}
use Rattle.lx_tool.proofs.reading.count_separators.Goals as goal

pub returns : goal.returns
returns c =
    let bytes = c.args.bytes.now in
    let long = length-drop c.args.first bytes in
    let behind : take (length bytes - c.args.first) (drop c.args.first bytes) ≡ drop c.args.first bytes = take_all (length bytes - c.args.first) (drop c.args.first bytes) (omega (arith, long)) in
    let count = c.separators_in.ensures ∙ ap (separators c.args.separator) behind in
    omega (arith, split c.args.separator c.args.first bytes, count, c.saturating_add.ensures, c.requires.count)
