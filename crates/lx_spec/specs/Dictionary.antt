-- The readings of a specification's definitions, and their mentions of one another (XCU `lex`, "Definitions in lex": `{name}`).
use Rattle.std.specs.Prelude.{ℕ, suc, Bool, false, true, not, List, [], ◌∷◌, ◌++◌, map, Option, Some, None, is_some, nat_eq}
use Rattle.std.specs.List.{filter_map, list_all, position}
use Rattle.std.specs.Cmp.Lexicographic.{pointwise}
use Rattle.lx_ere.specs.Regex.{Regex}
use Rattle.lx_ere.specs.Pattern.{IsSubstitute}
use Rattle.lx_rules.specs.Names.{names_of}
use Rattle.lx_spec.specs.Sections.{RawDefinition}
use Rattle.lx_spec.specs.declared.graph.Mention.{Mention}

-- the number of the definition with this name
abbrev pub number_of : List RawDefinition → List ℕ → Option ℕ
number_of raw_definitions name = position (λ d. pointwise nat_eq d.name name) raw_definitions

-- the numbers of the definitions that an expression names
abbrev pub row_of : List RawDefinition → Regex → List ℕ
row_of raw_definitions tree = filter_map (number_of raw_definitions) (names_of tree)

-- each name in an expression is defined
abbrev pub all_defined : List RawDefinition → Regex → Bool
all_defined raw_definitions tree = list_all (λ name. is_some (number_of raw_definitions name)) (names_of tree)

-- the reading of a substitute; none if it has no reading
abbrev pub IsTreeOf : List ℕ → Option Regex → Type 0
IsTreeOf substitute None = (u : Regex) → IsSubstitute substitute u → ⊥
IsTreeOf substitute (Some u) = IsSubstitute substitute u

abbrev pub AreTrees : List RawDefinition → List (Option Regex) → Type 0
AreTrees [] [] = Unit {0}
AreTrees [] (t ∷ trees) = ⊥
AreTrees (d ∷ raw_definitions) [] = ⊥
AreTrees (d ∷ raw_definitions) (t ∷ trees) = IsTreeOf d.substitute t × AreTrees raw_definitions trees

abbrev pub mention_of : ℕ → ℕ → Mention
mention_of i j = record { from = i; to = j }

abbrev pub row_in : List RawDefinition → Option Regex → List ℕ
row_in raw_definitions None = []
row_in raw_definitions (Some u) = row_of raw_definitions u

-- the mentions by definition i, with the numbers of both
abbrev pub mentions_in : List RawDefinition → ℕ → Option Regex → List Mention
mentions_in raw_definitions i t = map (mention_of i) (row_in raw_definitions t)

abbrev pub mentions_from : List RawDefinition → ℕ → List (Option Regex) → List Mention
mentions_from raw_definitions i [] = []
mentions_from raw_definitions i (t ∷ trees) = mentions_in raw_definitions i t ++ mentions_from raw_definitions (suc i) trees

-- all mentions of definitions by definitions
abbrev pub mentions_of : List RawDefinition → List (Option Regex) → List Mention
mentions_of raw_definitions trees = mentions_from raw_definitions 0 trees

abbrev pub is_unreadable : Option Regex → Bool
is_unreadable None = true
is_unreadable (Some u) = false

-- the expression has a name that isn't defined
abbrev pub is_incomplete : List RawDefinition → Option Regex → Bool
is_incomplete raw_definitions None = false
is_incomplete raw_definitions (Some u) = not (all_defined raw_definitions u)

-- true for each definition that has no reading; true for each with a name that isn't defined
abbrev pub unreadable_marks : List (Option Regex) → List Bool
unreadable_marks trees = map is_unreadable trees

abbrev pub incomplete_marks : List RawDefinition → List (Option Regex) → List Bool
incomplete_marks raw_definitions trees = map (is_incomplete raw_definitions) trees
