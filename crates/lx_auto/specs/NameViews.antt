-- The definition that a name means.
use Rattle.std.specs.Prelude.{ℕ, suc, nat_eq, if◌then◌else◌, List, [], ◌∷◌, Option, Some, None, slice_get}
use Rattle.std.specs.Option.{option_map}
use Rattle.std.specs.Cmp.Lexicographic.{pointwise}
use Rattle.lx_ere.specs.Regex.{Regex, regex_of}
use Rattle.lx_rules.specs.declared.definition.Definition.{Definition}

-- the number of the first definition with this name
abbrev pub place_of : List Definition → List ℕ → Option ℕ
place_of [] name = None
place_of (d ∷ definitions) name = if pointwise nat_eq d.name.items name then Some 0 else option_map suc (place_of definitions name)

-- the expression of the definition at this place
abbrev pub tree_at : List Definition → Option ℕ → Option Regex
tree_at definitions None = None
tree_at definitions (Some i) = option_map (λ d. regex_of d.expr) (slice_get definitions i)
