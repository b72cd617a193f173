-- The tables of commands and their arguments, as rules and apps of `clap`: a mirror of the loops in `app`. The contract of `command` states that they
-- make the command line of `specs/CommandLine`.
use Rattle.std.specs.Prelude.{List, [], ◌∷◌, Some, None, true}
use Rattle.clap.specs.declared.builder.action.ArgAction.TheVariants.{Append, SetTrue}
use Rattle.clap.specs.declared.builder.value_parser.ValueParser.TheVariants.{Signed}
use Rattle.clap.specs.Lexer.{usize_max}
use Rattle.clap.specs.Words.{App, Rule, new_app, new_rule, with_rule, with_subcommand}
use Rattle.lx_cli.specs.declared.commands.Argument.{Argument}
use Rattle.lx_cli.specs.declared.commands.ArgumentForm.{ArgumentForm}
use Rattle.lx_cli.specs.declared.commands.ArgumentForm.TheVariants as form
use Rattle.lx_cli.specs.declared.commands.Name.{Name}
use Rattle.lx_cli.specs.declared.commands.Name.TheVariants as name
use Rattle.lx_cli.specs.declared.commands.NumberRange.{NumberRange}
use Rattle.lx_cli.specs.declared.commands.Subcommand.{Subcommand}

abbrev pub named_rule : Name → Rule → Rule
named_rule (name.Short letter) rule = record rule { short = Some letter }
named_rule (name.Long word) rule = record rule { long = Some word.now }

-- a number between bounds, with or without a default
abbrev pub numbered_rule : NumberRange → Rule → Rule
numbered_rule numbers rule = record rule {
  parser = Some (Signed numbers.least numbers.most);
  defaults = elim numbers.default [ Some text ↦ text.now ∷ [] | None ↦ [] ];
}

-- an argument with this form
abbrev pub formed_rule : ArgumentForm → Rule → Rule
formed_rule (form.Flag name) rule = record (named_rule name rule) { action = Some SetTrue }
formed_rule (form.Value name _) rule = record (named_rule name rule) { value_names = 1 }
formed_rule (form.Values name _) rule = record (named_rule name rule) { value_names = 1; action = Some Append }
formed_rule (form.Number name _ numbers) rule = numbered_rule numbers (record (named_rule name rule) { value_names = 1 })
formed_rule form.Needed rule = record rule { required = true }
formed_rule form.Optional rule = rule
formed_rule form.Several rule = record rule {
  range = Some (record { start_inclusive = 1; end_inclusive = usize_max });
  action = Some Append;
}

abbrev pub argument_rule : Argument → Rule
argument_rule argument = formed_rule argument.form (new_rule argument.id.now)

unfoldable pub with_arguments : App → List Argument → App
with_arguments app [] = app
with_arguments app (argument ∷ arguments) = with_arguments (with_rule app (argument_rule argument)) arguments

unfoldable pub with_subcommands : App → List Subcommand → App
with_subcommands app [] = app
with_subcommands app (one ∷ subcommands) =
    with_subcommands (with_subcommand app (with_arguments (new_app one.name.now) one.arguments.now).top) subcommands
