-- The depth to which names of a specification are nested (XCU `lex`, "Definitions in lex").
use Rattle.std.specs.Prelude.{ℕ, zero, suc, Bool, true, false, nat_eq, if◌then◌else◌, List, [], ◌∷◌, map, Option, Some, None}
use Rattle.std.specs.List.{list_all}
use Rattle.std.specs.Cmp.Lexicographic.{pointwise}
use Rattle.lx_ere.specs.Regex.{Regex}
use Rattle.lx_rules.specs.Limits.{max_name_depth}
use Rattle.lx_rules.specs.Plain.{PlainDefinition, PlainRule}
use Rattle.lx_rules.specs.Names.{names_of}

-- the expression of the first definition with this name
abbrev pub tree_named : List PlainDefinition → List ℕ → Option Regex
tree_named [] name = None
tree_named (d ∷ definitions) name = if pointwise nat_eq d.name name then Some d.tree else tree_named definitions name

abbrev pub holds_of : (Regex → Bool) → Option Regex → Bool
holds_of p None = false
holds_of p (Some tree) = p tree

abbrev pub is_no_name : List (List ℕ) → Bool
is_no_name [] = true
is_no_name (name ∷ names) = false

-- each name in the expression is defined, and at most n names follow one another from it
abbrev pub is_within : ℕ → List PlainDefinition → Regex → Bool
is_within zero definitions tree = is_no_name (names_of tree)
is_within (suc n) definitions tree = list_all (λ name. holds_of (is_within n definitions) (tree_named definitions name)) (names_of tree)

-- the expressions of the patterns of some rules
abbrev pub expressions_of : List PlainRule → List Regex
expressions_of rules = map (λ r. r.reading.tree) rules

-- the names in all expressions are defined, and at most `max_name_depth` follow one another
unfoldable pub are_nested : List PlainDefinition → List Regex → Bool
are_nested definitions trees = list_all (is_within max_name_depth definitions) trees
