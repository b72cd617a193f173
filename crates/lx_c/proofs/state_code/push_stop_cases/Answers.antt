use Rattle.std.proofs.Common.{None, codes, rules}
use Rattle.std.specs.Prelude.{◌==◌}
use Rattle.lx_c.specs.StateCode.{group_count, labels}
use Rattle.lx_c.proofs.Texts.{then_2, when_false}
use Rattle.lx_c.proofs.state_code.push_stop_cases.Goals as goal

pub returns : goal.returns
returns c =
    when_false c.push.result (group_count c.args.code.nul_ends c.args.code.tables.now.machine c.args.state None 256 == 0) _ _ _ _ (search rules)
    (then_2 c.push.result _ _ _ (labels c.args.code.nul_ends c.args.code.tables.now.machine c.args.state None) (codes " break;\n") c.in_ok-push_labels.ensures c.push.ensures)
