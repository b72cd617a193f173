-- The requests of `gen` and `up` if the name begins with no hyphen.
use Rattle.std.proofs.Common.{◌≡◌, ◌∙◌, ◌++◌, Bool, true, false, refl, codes, List, [], ◌∷◌, Some}
use Rattle.clap.specs.Faults.{defaults_fault, positional_fault}
use Rattle.clap.specs.Simple.{filled, help_rule, new_shape}
use Rattle.clap.specs.Walk.{Walk, arg_by_index, finished, idle, nothing_held, to_positional, walk_from, walked}
use Rattle.clap.specs.Words.{Rule, Shape, Text}
use Rattle.clap.specs.declared.builder.action.ArgAction.TheVariants.{Set}
use Rattle.clap.specs.declared.builder.value_parser.ValueParser.TheVariants as parser
use Rattle.lx_cli.proofs.PlainWords.{Enters, Steps, asks, ending, no_words, standing, step_then, value_goes, value_passes}
use Rattle.lx_cli.specs.CommandLine.{Asked, IsPlainWord, asked_by, asked_of, flag_rule, gen, lx_app, option_rule, plain_text, rules_rule, target_rule, up}

-- ---- the two subcommands, as they are built

abbrev name : Bool → Text
name true = codes "gen"
name false = codes "up"

abbrev id : Bool → Text
id true = codes "SPEC"
id false = codes "TABLES"

abbrev rules : Bool → Rule
rules b = record (rules_rule (id b)) {
  index = Some 1;
  action = Some Set;
  range = Some (record { start_inclusive = 1; end_inclusive = 1 });
  parser = Some parser.String;
}

abbrev help : Rule
help = record help_rule { range = Some (record { start_inclusive = 0; end_inclusive = 0 }); parser = Some parser.String }

-- the options that aren't given in such arguments
abbrev further_rules : List Rule
further_rules =
    filled target_rule ∷ filled (flag_rule (codes "c")) ∷ filled (flag_rule (codes "header"))
    ∷ filled (option_rule (codes "prefix") (codes "prefix")) ∷ filled (option_rule (codes "include") (codes "include")) ∷ filled (flag_rule (codes "direct")) ∷ []

abbrev printing : Bool → Shape
printing b = record (new_shape (name b)) { rules = further_rules ++ rules b ∷ help ∷ []; disable_help_subcommand = true; is_built = true }

enters : (b : Bool) → Enters (name b) (printing b)
unfolding lx_app walked
enters true = record { passes = refl; goes = refl; found = refl }
enters false = record { passes = refl; goes = refl; found = refl }

-- ---- the walk

abbrev at_end : Bool → Text → Walk
at_end b r = standing (record { rows = []; pending = Some (id b, r ∷ []); skip = 0 }) idle 2

goes : (b : Bool) (r : Text) → to_positional (printing b).rules (Some (rules b)) r (walk_from nothing_held) nothing_held ≡ at_end b r
goes true r = refl
goes false r = refl

here : (b : Bool) → arg_by_index (printing b).rules 1 ≡ Some (rules b)
here b = refl

passes : (b : Bool) → positional_fault (printing b).rules false (rules b) nothing_held ≡ []
passes b = refl

name_steps : (b : Bool) (r : Text) → IsPlainWord r → Steps (printing b) [] (walk_from nothing_held) (r ∷ []) (at_end b r)
name_steps b r plain =
    step_then _ _ _ _ _ r [] (value_passes (printing b) r nothing_held idle 1 plain refl (rules b) refl (here b) (passes b))
    (value_goes (printing b) r nothing_held idle 1 plain refl (rules b) refl (here b) ∙ goes b r) (no_words _ _ _)

ends_well : (b : Bool) (r : Text) → ending (printing b) (at_end b r).held false ≡ []
unfolding defaults_fault
ends_well true r = refl
ends_well false r = refl

abbrev ask : Bool → Text → Asked
ask true r = gen (plain_text r)
ask false r = up (plain_text r)

asks_name : (b : Bool) (r : Text) → asked_of (name b, finished (printing b).rules (at_end b r).held) ≡ Some (ask b r)
asks_name true r = refl
asks_name false r = refl

pub plain_name_asks : (b : Bool) (program r : Text) → IsPlainWord r → asked_by (program ∷ name b ∷ r ∷ []) ≡ Some (ask b r)
plain_name_asks b program r plain =
    asks program (name b) (r ∷ []) (printing b) (at_end b r) (enters b) (name_steps b r plain) (ends_well b r) ∙ asks_name b r
