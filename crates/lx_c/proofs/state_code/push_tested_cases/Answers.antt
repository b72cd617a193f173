use Rattle.lx_c.specs.StateCode.{first_target, main_target, switch_code, test_code}
use Rattle.lx_c.proofs.Texts.{then_2}
use Rattle.lx_c.proofs.state_code.push_tested_cases.Goals as goal

pub returns : goal.returns
returns c =
    then_2 c.push_switch.result _ _ _ (test_code c.args.code.options.now c.args.code.nul_ends c.args.code.tables.now.machine c.args.state (first_target c.args.code.tables.now.machine c.args.state)) (switch_code c.args.code.options.now c.args.code.nul_ends c.args.code.tables.now.machine c.args.state (main_target c.args.code.nul_ends c.args.code.tables.now.machine c.args.state))
    (rw c.first_target-first.ensures.target at c.in_ok-push_test.ensures) (rw c.main_target-main.ensures.target at c.push_switch.ensures)
