use Rattle.std.proofs.Common.{Some, codes}
use Rattle.lx_c.specs.StateCode.{edge_text, labels}
use Rattle.lx_c.proofs.Texts.{then_4}
use Rattle.lx_c.proofs.state_code.push_group.Goals as goal

pub returns : goal.returns
returns c =
    then_4 c.push-2.result _ _ _ _ _ (labels c.args.code.nul_ends c.args.code.tables.now.machine c.args.state (Some c.args.target)) (codes " ") (edge_text c.args.code.options.now c.args.code.nul_ends c.args.code.tables.now.machine c.args.state c.args.target) (codes "\n")
    c.in_ok-push_labels.ensures c.in_ok-push.ensures c.in_ok-push_edge.ensures c.push-2.ensures
