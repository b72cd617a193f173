use Rattle.lx_c.proofs.Texts.{then_6}
use Rattle.lx_c.proofs.declarations.push_header.Goals as goal

pub returns : goal.returns
returns c = then_6 c.push_filled-2.result c.args.text.now.items _ _ _ _ _ c.push_filled-2.new.text.items _ _ _ _ _ _ c.in_ok-push_filled.ensures c.in_ok-push_include.ensures c.in_ok-push_kinds.ensures (rw (c.from.ensures, c.conditions.ensures.count) at c.in_ok-push_numbered.ensures) c.in_ok-push_condition_lines.ensures c.push_filled-2.ensures
