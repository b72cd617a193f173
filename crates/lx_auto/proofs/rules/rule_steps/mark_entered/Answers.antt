use Rattle.std.proofs.Common.{[], ◌∷◌, sym}
use Rattle.std.specs.Prelude.{reverse}
use Rattle.lx_auto.specs.NodeViews.{nodes_view}
use Rattle.lx_auto.proofs.Unmarked.{clear_below, entered_not, no_reads}
use Rattle.lx_auto.proofs.rules.rule_steps.mark_entered.Goals as goal

pub returns-clause-set : goal.returns-clause-set
returns-clause-set c =
    sym (no_reads c.args.nulls.now c.args.ends.now (reverse (nodes_view c.args.outline.now)) (c.args.entered ∷ []) c.args.end c.args.enters.now.items
    (clear_below c.args.ends.now (c.has_flag.ensures c.if-has_flag.false)) (entered_not c.args.entered c.if-entered.false) c.requires.clear)
