use Rattle.std.proofs.Common.{false, replicate, sym, ◌∙◌, ap}
use Rattle.std.proofs.lemmas.List.{length-map}
use Rattle.std.proofs.lemmas.Result.{IfOk-weaker}
use Rattle.lx_auto.specs.NodeViews.{node_view, nodes_view}
use Rattle.lx_auto.proofs.Unmarked.{clear_below, no_ends}
use Rattle.lx_auto.proofs.rules.rule_steps.outline_ends.Goals as goal

pub returns : goal.returns
returns c =
    IfOk-weaker c.vec.result _ _
    (λ v made.
    made (λ y same. same)
    ∙ ap (λ n. replicate n false) (sym (length-map c.args.outline.now node_view))
    ∙ sym (no_ends c.args.nulls.now c.args.at_blocks.now 0 (nodes_view c.args.outline.now) (clear_below c.args.at_blocks.now (c.has_flag.ensures c.if-has_flag.false))))
    c.vec.ensures.items_if_clones_equal
