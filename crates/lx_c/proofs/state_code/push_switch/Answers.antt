use Rattle.lx_c.specs.StateCode.{case_codes, main_code}
use Rattle.lx_c.proofs.Texts.{then_3}
use Rattle.lx_c.specs.Templates.{filled}
use Rattle.lx_c.specs.declared.state_templates.TheConstants.{SWITCH}
use Rattle.lx_c.proofs.state_code.push_switch.Goals as goal

pub returns : goal.returns
returns c =
    then_3 c.push_main.result _ _ _ _ (filled c.args.code.options.now.prefix SWITCH.now) (case_codes c.args.code.options.now c.args.code.nul_ends c.args.code.tables.now.machine c.args.state c.args.main) (main_code c.args.code.options.now c.args.code.nul_ends c.args.code.tables.now.machine c.args.state c.args.main)
    c.in_ok-push_filled.ensures c.in_ok-push_cases.ensures c.push_main.ensures
