use Rattle.std.proofs.Common.{append_assoc, arith, length, ◌∙◌}
use Rattle.std.specs.List.{flat_map, range_with_len}
use Rattle.std.specs.Prelude.{codes}
use Rattle.lx_c.proofs.Texts.{text_end}
use Rattle.lx_lex.specs.Lists.{list_at, list_entries}
use Rattle.lx_lex.proofs.list_arrays.push_rules.Goals as goal

pub returns : goal.returns
returns c =
    let lists = c.args.all.now in
    text_end _ _ _ (length lists) _ c.loop-number.invariant (omega arith)
    ∙ append_assoc c.args.text.now.items (codes "0,\n") (flat_map (λ k. list_entries (list_at lists k)) (range_with_len 0 (length lists)))
