use Rattle.std.proofs.lemmas.Result.{IfOk-weaker}
use Rattle.lx_cli.specs.CommandLine.{lx_app}
use Rattle.lx_cli.specs.Tables.{with_arguments, with_subcommands}
use Rattle.lx_cli.proofs.app.command.Goals as goal

pub returns : goal.returns
unfolding lx_app with_arguments with_subcommands
returns c = IfOk-weaker c.with_subcommands.result _ _ (λ command is. is) c.with_subcommands.ensures
