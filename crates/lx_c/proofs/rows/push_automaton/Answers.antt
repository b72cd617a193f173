use Rattle.lx_c.proofs.Texts.{then_5}
use Rattle.lx_c.proofs.rows.push_automaton.Goals as goal

pub returns : goal.returns
returns c = then_5 c.push_start_array.result c.args.text.now.items _ _ _ _ c.push_start_array.new.text.items _ _ _ _ _ (rw c.has_line_begin.ensures at c.in_ok-push_either.ensures) (rw (c.from.ensures, c.classes.ensures.count) at c.in_ok-push_numbered.ensures) c.in_ok-push_classes.ensures c.in_ok-push_rows.ensures c.push_start_array.ensures
