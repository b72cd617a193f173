-- A mirror of `unfold`: the expression in its kept form. Parts without positions are removed, and so is a second `opt` or `plus` on the first. It has
-- the words and the positions of the written-out expression (proofs/KeptWords). The law `positions_spell_patterns` speaks of that one.
use Rattle.std.specs.Prelude.{ℕ, zero, suc, Bool, true, false, List, Option, Some, None}
use Rattle.lx_ere.specs.Regex.{Regex, nil, one_of, then, or, times, named}
use Rattle.lx_rules.specs.Plain.{PlainDefinition}
use Rattle.lx_rules.specs.Nesting.{tree_named}
use Rattle.lx_rules.specs.Limits.{max_name_depth}
use Rattle.lx_auto.specs.Unfolded.{Unfolded, empty, leaf, cat, alt, opt, plus, nullable}

-- optional, unless it matches the empty word already
abbrev pub opt_unless : Bool → Unfolded → Unfolded
opt_unless true a = a
opt_unless false a = opt a

abbrev pub opt_of : Unfolded → Unfolded
opt_of a = opt_unless (nullable a) a

-- one or more, unless the expression has that form already
abbrev pub plus_of : Unfolded → Unfolded
plus_of empty = empty
plus_of (leaf s) = plus (leaf s)
plus_of (cat a b) = plus (cat a b)
plus_of (alt a b) = plus (alt a b)
plus_of (opt (plus a)) = opt (plus a)
plus_of (opt a) = plus (opt a)
plus_of (plus a) = plus a

abbrev pub cat_of : Unfolded → Unfolded → Unfolded
cat_of empty b = b
cat_of a empty = a
cat_of a b = cat a b

abbrev pub alt_of : Unfolded → Unfolded → Unfolded
alt_of empty b = opt_of b
alt_of a empty = opt_of a
alt_of a b = alt a b

abbrev pub simplified_counted : Unfolded → ℕ → ℕ → Unfolded
simplified_counted r low zero = empty
simplified_counted r zero (suc high) = opt_of (cat_of r (simplified_counted r zero high))
simplified_counted r (suc low) (suc high) = cat_of r (simplified_counted r low high)

abbrev pub simplified_unbounded : Unfolded → ℕ → Unfolded
simplified_unbounded r zero = plus_of r
simplified_unbounded r (suc n) = cat_of r (simplified_unbounded r n)

abbrev pub simplified_repeated : Unfolded → ℕ → Option ℕ → Unfolded
simplified_repeated r low (Some high) = simplified_counted r low high
simplified_repeated r zero None = opt_of (plus_of r)
simplified_repeated r (suc low) None = simplified_unbounded r low

abbrev pub simplified : (List ℕ → Unfolded) → Regex → Unfolded
simplified names nil = empty
simplified names (one_of s) = leaf s
simplified names (then a b) = cat_of (simplified names a) (simplified names b)
simplified names (or a b) = alt_of (simplified names a) (simplified names b)
simplified names (times body low high) = simplified_repeated (simplified names body) low high
simplified names (named name) = names name

abbrev pub simplified_if_defined : (List ℕ → Unfolded) → Option Regex → Unfolded
simplified_if_defined names None = empty
simplified_if_defined names (Some tree) = simplified names tree

abbrev pub simplified_name : List PlainDefinition → ℕ → List ℕ → Unfolded
simplified_name definitions zero name = empty
simplified_name definitions (suc n) name = simplified_if_defined (simplified_name definitions n) (tree_named definitions name)

unfoldable pub simplified_pattern : List PlainDefinition → Regex → Unfolded
simplified_pattern definitions tree = simplified (simplified_name definitions max_name_depth) tree
