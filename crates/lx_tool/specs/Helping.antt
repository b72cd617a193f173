-- Arguments that ask for nothing except the help or the version.
use Rattle.std.specs.Prelude.{ℕ, List}
use Rattle.clap.specs.declared.error.ErrorKind.{ErrorKind}
use Rattle.lx_cli.specs.CommandLine.{IsFault, IsTold}

-- `clap` answers them by the help or the version
pub record AskForHelp (words : List (List ℕ)) : Type 0 where
  pub kind : ErrorKind
  pub told : IsTold kind
  pub answer : IsFault words kind
