-- Checks of the rules and conditions of a specification before it is made.
use Rattle.std.specs.Prelude.{ℕ, Bool, true, false, ◌&&◌, nat_lt, List, [], ◌∷◌}
use Rattle.lx_ere.specs.Bounds.{has_ordered_bounds}
use Rattle.lx_ere.specs.Regex.{Regex}
use Rattle.lx_rules.specs.Invariant.{are_conditions}
use Rattle.lx_rules.specs.Names.{names_of}
use Rattle.lx_rules.specs.Nesting.{is_no_name}
use Rattle.lx_rules.specs.Plain.{PlainRule}
use Rattle.lx_rules.specs.declared.rule.Step.{Step}

-- no definition is named, and the bounds of intervals are in order
abbrev pub is_plain_tree : Regex → Bool
is_plain_tree tree = is_no_name (names_of tree) && has_ordered_bounds tree

abbrev pub is_idle : List Step → Bool
is_idle [] = true
is_idle (step ∷ steps) = false

-- the line counts from 1, the conditions exist, there are no steps, and the tree is plain
abbrev pub is_sound : ℕ → PlainRule → Bool
is_sound conditions rule = nat_lt 0 rule.line && (are_conditions conditions rule.conditions && (is_idle rule.steps && is_plain_tree rule.reading.tree))
