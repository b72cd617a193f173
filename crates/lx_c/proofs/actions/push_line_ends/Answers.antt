use Rattle.std.proofs.Common.{arith, length, sym, ◌++◌, ◌∙◌}
use Rattle.lx_c.specs.Templates.{filled}
use Rattle.lx_c.specs.declared.templates.TheConstants.{LINE_END, LINE_ENDS}
use Rattle.lx_c.proofs.Texts.{regroup, text_between, text_next, when_true}
use Rattle.lx_c.proofs.actions.push_line_ends.Goals as goal

pub loop-rule-preserved : goal.loop-rule-preserved
loop-rule-preserved c = text_next _ _ _ _ _ c.loop-rule.invariant (rw c.cut.ensures at c.in_ok-push_line_end_entry.ensures)

pub returns : goal.returns
returns c =
    let before = filled c.args.options.now.prefix LINE_END.now in
    when_true c.push.result _ _ _ _ _ (sym c.has_line_ends.ensures ∙ c.if-not-has_line_ends.false)
    (regroup c.push.result c.args.text.now.items before c.push.new.text.items _
    (text_between c.push.result _ (c.args.text.now.items ++ before) (filled c.args.options.now.prefix LINE_ENDS.now) _ _ _ (length c.args.tables.now.rules) _ c.loop-rule.invariant (omega arith) c.push.ensures))
