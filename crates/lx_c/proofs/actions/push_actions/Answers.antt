use Rattle.lx_c.proofs.Texts.{then_7}
use Rattle.lx_c.proofs.actions.push_actions.Goals as goal

pub returns : goal.returns
returns c = then_7 c.push_kinds_array.result c.args.text.now.items _ _ _ _ _ _ c.push_kinds_array.new.text.items _ _ _ _ _ _ _ c.in_ok-push_steps_arrays.ensures c.in_ok-push_steps.ensures c.in_ok-push_actions_array.ensures c.in_ok-push_line_ends.ensures (rw c.has_echoes.ensures at c.in_ok-push_either.ensures) c.in_ok-push_kind_entries.ensures c.push_kinds_array.ensures
