use Rattle.std.proofs.Common.{codes}
use Rattle.lx_c.specs.StateCode.{walk_code}
use Rattle.lx_c.proofs.Texts.{then_2}
use Rattle.lx_c.specs.Templates.{numbered}
use Rattle.lx_c.specs.declared.state_templates.TheConstants.{LABEL}
use Rattle.lx_c.proofs.state_code.push_state.Goals as goal

pub returns : goal.returns
returns c =
    then_2 c.push_walk.result _ _ _ (numbered c.args.code.options.now LABEL.now c.args.state (codes ":\n")) (walk_code c.args.code.options.now c.args.code.nul_ends c.args.code.tables.now.machine c.args.state) c.in_ok-push_numbered.ensures c.push_walk.ensures
