use Rattle.std.proofs.Common.{◌≡◌, drop}
use Rattle.clap.specs.Words.{app_of}
use Rattle.lx_cli.specs.CommandLine.{bare_app}
use Rattle.lx_cli.specs.Tables.{with_subcommands}
use Rattle.lx_cli.proofs.app.with_subcommands.Given as goal

abbrev pub invariant-loop-subcommand : goal.invariant-loop-subcommand
invariant-loop-subcommand l = with_subcommands (app_of l.command) (drop l.subcommand-index l.subcommands) ≡ with_subcommands bare_app l.subcommands
