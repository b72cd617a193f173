-- Words and commands, added one by one.
use Rattle.std.proofs.Common.{ℕ, ◌≡◌, ◌<◌, ◌≤◌, ◌+◌, List, length, drop, sym, ap, ◌∙◌}
use Rattle.std.specs.Prelude.{slice_index_or}
use Rattle.std.proofs.lemmas.List.{drop_all, drop_more}
use Rattle.clap.specs.Words.{App, new_app, with_rule, with_subcommand}
use Rattle.lx_cli.specs.declared.commands.Argument.{Argument}
use Rattle.lx_cli.specs.declared.commands.Subcommand.{Subcommand}
use Rattle.lx_cli.specs.Tables.{argument_rule, with_arguments, with_subcommands}

pub adds_argument : (app all new : App) (arguments : List Argument) (i : ℕ) (d : Argument) → i < length arguments → new ≡ with_rule app (argument_rule (slice_index_or arguments i d)) →
    with_arguments app (drop i arguments) ≡ all → with_arguments new (drop (i + 1) arguments) ≡ all
unfolding with_arguments
adds_argument app all new arguments i d l is before =
    ap (λ more. with_arguments more (drop (i + 1) arguments)) is ∙ sym (ap (with_arguments app) (drop_more arguments i d l)) ∙ before

pub ends_arguments : (app all : App) (arguments : List Argument) (i : ℕ) → length arguments ≤ i → with_arguments app (drop i arguments) ≡ all → app ≡ all
unfolding with_arguments
ends_arguments app all arguments i l before = sym (ap (with_arguments app) (drop_all i arguments l)) ∙ before

pub adds_subcommand : (app all new : App) (subcommands : List Subcommand) (i : ℕ) (d : Subcommand) → i < length subcommands →
    new ≡ with_subcommand app (with_arguments (new_app (slice_index_or subcommands i d).name.now) (slice_index_or subcommands i d).arguments.now).top →
    with_subcommands app (drop i subcommands) ≡ all → with_subcommands new (drop (i + 1) subcommands) ≡ all
unfolding with_subcommands
adds_subcommand app all new subcommands i d l is before =
    ap (λ more. with_subcommands more (drop (i + 1) subcommands)) is ∙ sym (ap (with_subcommands app) (drop_more subcommands i d l)) ∙ before

pub ends_subcommands : (app all : App) (subcommands : List Subcommand) (i : ℕ) → length subcommands ≤ i → with_subcommands app (drop i subcommands) ≡ all → app ≡ all
unfolding with_subcommands
ends_subcommands app all subcommands i l before = sym (ap (with_subcommands app) (drop_all i subcommands l)) ∙ before
