use Rattle.std.proofs.Common.{◌≡◌, Some, codes, rules}
use Rattle.lx_c.specs.StateCode.{edge_text, stop_cases}
use Rattle.lx_c.proofs.Texts.{then_4}
use Rattle.lx_c.proofs.state_code.push_main.Goals as goal

pub returns-in_ok-push_edge-in-Some : goal.returns-in_ok-push_edge-in-Some
returns-in_ok-push_edge-in-Some c =
    let main : c.args.main ≡ Some c.in-Some.target = search rules in
    rw main (then_4 c.push-in-Some-2.result _ _ _ _ _ (stop_cases c.args.code.nul_ends c.args.code.tables.now.machine c.args.state) (codes "        default: ") (edge_text c.args.code.options.now c.args.code.nul_ends c.args.code.tables.now.machine c.args.state c.in-Some.target) (codes "\n        }\n")
    c.in_ok-push_stop_cases-in-Some.ensures c.in_ok-push-in-Some.ensures c.in_ok-push_edge-in-Some.ensures c.push-in-Some-2.ensures)
