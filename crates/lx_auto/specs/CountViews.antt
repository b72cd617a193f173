-- Counts of the definitions, which stop at one more than a specification may have.
use Rattle.std.specs.Prelude.{ℕ, ◌+◌, min, List, Option, Some, None, map, get_or}
use Rattle.lx_ere.specs.Regex.{regex_of}
use Rattle.lx_rules.specs.views.Rules.{definition_view}
use Rattle.lx_rules.specs.declared.definition.Definition.{Definition}
use Rattle.lx_rules.specs.Limits.{max_positions}
use Rattle.lx_auto.specs.Counts.{count_in, count_of_name}
use Rattle.lx_auto.specs.NameViews.{place_of}

abbrev pub count_of_place : List ℕ → Option ℕ → ℕ
count_of_place counts None = 0
count_of_place counts (Some i) = get_or counts i 0

-- the number of positions of a name, by a list of those of the definitions
abbrev pub looked_up : List Definition → List ℕ → List ℕ → ℕ
looked_up definitions counts name = count_of_place counts (place_of definitions name)

-- for each definition, its number by such a list
abbrev pub counts_behind : List Definition → List ℕ → List ℕ
counts_behind definitions counts = map (λ d. min (max_positions + 1) (count_in (looked_up definitions counts) (regex_of d.expr))) definitions

-- for each definition, its number with names unfolded at most n deep
unfoldable pub counts_at : List Definition → ℕ → List ℕ
counts_at definitions n = map (λ d. min (max_positions + 1) (count_in (count_of_name (map definition_view definitions) n) (regex_of d.expr))) definitions
