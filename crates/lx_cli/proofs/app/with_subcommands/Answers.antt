use Rattle.std.proofs.Common.{◌∙◌, ap}
use Rattle.clap.specs.Words.{App, app_of, with_subcommand}
use Rattle.lx_cli.specs.Tables.{with_subcommands}
use Rattle.lx_cli.proofs.Adding.{adds_subcommand, ends_subcommands}
use Rattle.lx_cli.proofs.app.with_subcommands.Goals as goal

pub loop-subcommand-init : goal.loop-subcommand-init
loop-subcommand-init c = ap (λ (app : App). with_subcommands app c.args.subcommands.now) c.requires

pub loop-subcommand-preserved : goal.loop-subcommand-preserved
loop-subcommand-preserved c =
    adds_subcommand _ _ _ c.args.subcommands.now c.loop-subcommand.subcommand-index _ c.loop-subcommand-test.true
    (c.in_ok-command.ensures.shape c.in_ok-subcommand_of.ensures.local ∙ ap (λ (app : App). with_subcommand (app_of c.loop-subcommand.command) app.top) c.in_ok-subcommand_of.ensures.app)
    c.loop-subcommand.invariant

pub returns : goal.returns
returns c = ends_subcommands _ _ c.args.subcommands.now c.loop-subcommand.subcommand-index c.loop-subcommand-test.false c.loop-subcommand.invariant
