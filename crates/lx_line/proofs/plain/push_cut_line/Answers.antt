use Rattle.std.proofs.Common.{◌∙◌, ◌++◌, decimal, ap}
use Rattle.std.specs.Prelude.{codes}
use Rattle.lx_line.proofs.Behind.{behind_ok}
use Rattle.lx_line.proofs.plain.push_cut_line.Goals as goal

pub returns : goal.returns
returns c =
    let old = c.args.block.now.items in
    behind_ok c.extend_from_slice.result old (decimal c.args.file) (codes " ! cut\n") c.push_number.new.line.items c.extend_from_slice.new.self.items
    (c.in_ok-push_number.ensures ∙ ap (λ n. old ++ decimal n) c.from.ensures) c.extend_from_slice.ensures.items
