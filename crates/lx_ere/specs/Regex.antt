-- Expressions as plain trees, without their place in memory (POSIX.1-2017, XBD 9.4; XCU `lex`, "Regular Expressions in lex").
use Rattle.std.specs.Prelude.{ℕ, Bool, List, Option}
use Rattle.std.specs.Ordering.{nat_cmp}
use Rattle.std.specs.FinSet as set
use Rattle.lx_ere.specs.declared.expr.Expr.{Expr}
use Rattle.lx_ere.specs.declared.expr.Expr.TheVariants.{Nil, Set, Then', Or', Times', Name}
use Rattle.lx_ere.specs.declared.expr.Pattern.{Pattern}

pub data Regex : Type 0 where
  -- the empty word
  nil : Regex
  -- one byte of the set
  one_of : set.FinSet nat_cmp → Regex
  -- the first, then the second
  then : Regex → Regex → Regex
  -- either
  or : Regex → Regex → Regex
  -- the body from low to high times, or low times and any more
  times : (body : Regex) (low : ℕ) (high : Option ℕ) → Regex
  -- the expression of the name
  named : List ℕ → Regex

-- the tree that an expression is
abbrev pub regex_of : Expr → Regex
regex_of Nil = nil
regex_of (Set s) = one_of s
regex_of (Then' p a q b) = then (regex_of a) (regex_of b)
regex_of (Or' p a q b) = or (regex_of a) (regex_of b)
regex_of (Times' p body low high) = times (regex_of body) low high
regex_of (Name name) = named (name.items)

-- the meaning of a pattern's text: its anchors, and the tree between them
pub record Reading : Type 0 where
  pub line_begin : Bool
  pub line_end : Bool
  pub tree : Regex

-- the reading that a pattern is
abbrev pub reading_of : Pattern → Reading
reading_of p = record { line_begin = p.line_begin; line_end = p.line_end; tree = regex_of p.expr }
