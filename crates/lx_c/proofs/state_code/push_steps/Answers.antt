use Rattle.lx_c.specs.StateCode.{end_code, loop_code, marked_target, tests_code}
use Rattle.lx_c.proofs.Texts.{then_3}
use Rattle.lx_c.specs.declared.state_templates.TheConstants.{STOP}
use Rattle.lx_c.proofs.state_code.push_steps.Goals as goal

pub returns : goal.returns
returns c =
    then_3 c.push_end.result _ _ _ _ (loop_code c.args.code.options.now c.args.code.nul_ends c.args.code.tables.now.machine c.args.state) (tests_code c.args.code.options.now c.args.code.nul_ends c.args.code.tables.now.machine c.args.state (marked_target c.args.code.tables.now.machine c.args.state)) (end_code c.args.code.options.now STOP.now c.args.code.tables.now.machine c.args.state)
    c.in_ok-push_loop.ensures (rw c.marked_target-marked.ensures.target at c.in_ok-push_tests.ensures) c.push_end.ensures
