use Rattle.std.proofs.Common.{sym, ◌∙◌}
use Rattle.lx_c.proofs.Texts.{then_2, then_5, when_false, when_true}
use Rattle.lx_c.proofs.declarations.push_kinds.Goals as goal

pub returns-then-has_include : goal.returns-then-has_include
returns-then-has_include c =
    when_true c.push_filled-then-has_include.result _ _ _ _ _ (sym c.has_include.ensures ∙ c.if-has_include.true)
    (then_2 c.push_filled-then-has_include.result c.args.text.now.items _ c.push_filled-then-has_include.new.text.items _ _ c.in_ok-push_filled.ensures c.push_filled-then-has_include.ensures)

pub returns : goal.returns
returns c =
    when_false c.push_number_then.result _ _ _ _ _ (sym c.has_include.ensures ∙ c.if-has_include.false)
    (then_5 c.push_number_then.result c.args.text.now.items _ _ _ _ c.push_number_then.new.text.items _ _ _ _ _
    c.in_ok-push_filled.ensures c.in_ok-push_kind_list.ensures c.in_ok-push_filled-2.ensures c.in_ok-push_filled-3.ensures c.push_number_then.ensures)
