use Rattle.std.proofs.Common.{◌≡◌, ◌∙◌, ap, false, rules}
use Rattle.std.proofs.lemmas.Result.{IfOk-weaker}
use Rattle.clap.specs.Words.{App, app_of, new_app}
use Rattle.clap.specs.declared.builder.Command.TheViews.{out-Command as fields_of}
use Rattle.lx_cli.specs.Tables.{with_arguments}
use Rattle.lx_cli.proofs.app.subcommand_of.Goals as goal

pub returns-clause-app : goal.returns-clause-app
returns-clause-app c =
    let about : app_of c.about-command.result ≡ new_app c.args.subcommand.now.name.now = search rules in
    IfOk-weaker c.with_arguments.result _ _ (λ command is. is ∙ ap (λ (app : App). with_arguments app c.args.subcommand.now.arguments.now) about) c.with_arguments.ensures.app

pub returns-clause-local : goal.returns-clause-local
returns-clause-local c =
    let none : (fields_of c.about-command.result).has_globals ≡ false = search rules in
    IfOk-weaker c.with_arguments.result _ _ (λ command is. is none) c.with_arguments.ensures.local
