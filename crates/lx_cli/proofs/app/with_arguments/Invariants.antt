use Rattle.std.proofs.Common.{◌≡◌, drop, false}
use Rattle.clap.specs.Words.{app_of}
use Rattle.clap.specs.declared.builder.Command.TheViews.{out-Command as fields_of}
use Rattle.lx_cli.specs.Tables.{with_arguments}
use Rattle.lx_cli.proofs.app.with_arguments.Given as goal

abbrev pub invariant-loop-argument : goal.invariant-loop-argument
invariant-loop-argument l = record {
  app : with_arguments (app_of l.command) (drop l.argument-index l.arguments) ≡ with_arguments (app_of l.fn.command) l.arguments;
  local : (fields_of l.fn.command).has_globals ≡ false → (fields_of l.command).has_globals ≡ false;
}
