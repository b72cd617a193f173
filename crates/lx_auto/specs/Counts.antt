-- The number of positions of a specification, counted before anything is unfolded.
use Rattle.std.specs.Prelude.{ℕ, zero, suc, ◌+◌, ◌*◌, max, Bool, true, false, List, [], ◌∷◌, Option, Some, None}
use Rattle.lx_ere.specs.Regex.{Regex, nil, one_of, then, or, times, named}
use Rattle.lx_rules.specs.Plain.{PlainDefinition, PlainRule, PlainSpec}
use Rattle.lx_rules.specs.Nesting.{tree_named}
use Rattle.lx_rules.specs.Limits.{max_name_depth}

-- the high bound is the number of copies; without one it is the number of required copies, and at least one
abbrev pub copies_of : ℕ → Option ℕ → ℕ
copies_of low (Some high) = high
copies_of low None = max 1 low

-- the number of positions of an expression, where `names` has that of a name
abbrev pub count_in : (List ℕ → ℕ) → Regex → ℕ
count_in names nil = 0
count_in names (one_of s) = 1
count_in names (then a b) = count_in names a + count_in names b
count_in names (or a b) = count_in names a + count_in names b
count_in names (times body low high) = copies_of low high * count_in names body
count_in names (named name) = names name

abbrev pub count_if_defined : (List ℕ → ℕ) → Option Regex → ℕ
count_if_defined names None = 0
count_if_defined names (Some tree) = count_in names tree

abbrev pub count_of_name : List PlainDefinition → ℕ → List ℕ → ℕ
count_of_name definitions zero name = 0
count_of_name definitions (suc n) name = count_if_defined (count_of_name definitions n) (tree_named definitions name)

-- the positions of a pattern, with names nested to the allowed depth
unfoldable pub count_of_pattern : List PlainDefinition → Regex → ℕ
count_of_pattern definitions tree = count_in (count_of_name definitions max_name_depth) tree

-- with a line end the newline is one position more
abbrev pub newline_count : Bool → ℕ
newline_count true = 1
newline_count false = 0

abbrev pub count_of_rule : List PlainDefinition → PlainRule → ℕ
count_of_rule definitions rule = count_of_pattern definitions rule.reading.tree + newline_count rule.reading.line_end

abbrev pub count_of_rules : List PlainDefinition → List PlainRule → ℕ
count_of_rules definitions [] = 0
count_of_rules definitions (rule ∷ rules) = count_of_rule definitions rule + count_of_rules definitions rules

abbrev pub count_of_spec : PlainSpec → ℕ
count_of_spec spec = count_of_rules spec.definitions spec.rules
