-- The expression of a pattern with names unfolded and repeats written out. With a high bound it has that number of copies, of which the first few are
-- used. Without one it has the required copies, the last of which may be repeated.
use Rattle.std.specs.Prelude.{ℕ, zero, suc, List, Option, Some, None}
use Rattle.lx_ere.specs.Regex.{Regex, nil, one_of, then, or, times, named}
use Rattle.lx_rules.specs.Plain.{PlainDefinition}
use Rattle.lx_rules.specs.Nesting.{tree_named}
use Rattle.lx_rules.specs.Limits.{max_name_depth}
use Rattle.lx_auto.specs.Unfolded.{Unfolded, empty, leaf, cat, alt, opt, plus}

-- low copies, and then up to high in total, each only after the previous one
abbrev pub counted : Unfolded → ℕ → ℕ → Unfolded
counted r low zero = empty
counted r zero (suc high) = opt (cat r (counted r zero high))
counted r (suc low) (suc high) = cat r (counted r low high)

-- n copies, and then one that may be taken again
abbrev pub unbounded : Unfolded → ℕ → Unfolded
unbounded r zero = plus r
unbounded r (suc n) = cat r (unbounded r n)

abbrev pub repeated : Unfolded → ℕ → Option ℕ → Unfolded
repeated r low (Some high) = counted r low high
repeated r zero None = opt (plus r)
repeated r (suc low) None = unbounded r low

-- the written-out expression, where `names` has the expression of a name
abbrev pub written_out : (List ℕ → Unfolded) → Regex → Unfolded
written_out names nil = empty
written_out names (one_of s) = leaf s
written_out names (then a b) = cat (written_out names a) (written_out names b)
written_out names (or a b) = alt (written_out names a) (written_out names b)
written_out names (times body low high) = repeated (written_out names body) low high
written_out names (named name) = names name

abbrev pub written_if_defined : (List ℕ → Unfolded) → Option Regex → Unfolded
written_if_defined names None = empty
written_if_defined names (Some tree) = written_out names tree

-- the expression of a name, with names unfolded at most n deep
abbrev pub name_written_out : List PlainDefinition → ℕ → List ℕ → Unfolded
name_written_out definitions zero name = empty
name_written_out definitions (suc n) name = written_if_defined (name_written_out definitions n) (tree_named definitions name)

-- the expression of a pattern, with names nested to the allowed depth
unfoldable pub pattern_written_out : List PlainDefinition → Regex → Unfolded
pattern_written_out definitions tree = written_out (name_written_out definitions max_name_depth) tree
