-- The grammar of patterns over lexemes (POSIX.1-2017, XBD 9.5.3; XCU `lex`, "Regular Expressions in lex").
use Rattle.std.specs.Prelude.{ℕ, List, [], ◌∷◌, ◌++◌, Option, Some, None}
use Rattle.std.specs.Ordering.{nat_cmp}
use Rattle.std.specs.FinSet as set
use Rattle.lx_ere.specs.Bytes.{byte_set}
use Rattle.lx_ere.specs.Regex.{Regex, nil, one_of, then, or, times, named}

pub data Lexeme : Type 0 where
  -- a byte, an escape, a period or a bracket expression
  set_of : set.FinSet nat_cmp → Lexeme
  -- a quoted string: its first byte, and those after it
  quoted : (first : ℕ) (more : List ℕ) → Lexeme
  -- a name in braces
  name : List ℕ → Lexeme
  -- bounds in braces, which repeat all of the branch before them
  interval : (low : ℕ) (high : Option ℕ) → Lexeme
  -- `*`, `+` or `?`, and in flex bounds in braces: they repeat the last unit
  repeat : (low : ℕ) (high : Option ℕ) → Lexeme
  -- the empty word, which only flex spells
  empty_word : Lexeme
  open_group : Lexeme
  close_group : Lexeme
  bar : Lexeme

-- the bytes one after the other, after the first expression, leaning to the left
abbrev pub joined : Regex → List ℕ → Regex
joined first [] = first
joined first (b ∷ bytes) = joined (then first (one_of (byte_set b))) bytes

mutual
  -- The lexemes are an alternation, and this is its tree: a branch, or an alternation, a bar and a branch.
  pub data IsAlternation : List Lexeme → Regex → Type 0 where
    branch_alone : (ls : List Lexeme) (r : Regex) → IsBranch ls r → IsAlternation ls r
    or_branch : (ls ms : List Lexeme) (a b : Regex) → IsAlternation ls a → IsBranch ms b → IsAlternation (ls ++ bar ∷ ms) (or a b)

  -- A branch: a unit, or a branch and a unit, or a branch and an interval, which repeats all of that branch.
  pub data IsBranch : List Lexeme → Regex → Type 0 where
    unit_alone : (ls : List Lexeme) (r : Regex) → IsUnit ls r → IsBranch ls r
    then_unit : (ls ms : List Lexeme) (a b : Regex) → IsBranch ls a → IsUnit ms b → IsBranch (ls ++ ms) (then a b)
    then_interval : (ls : List Lexeme) (a : Regex) (low : ℕ) (high : Option ℕ) → IsBranch ls a → IsBranch (ls ++ interval low high ∷ []) (times a low high)

  -- A unit: a set, a quoted string, a name, the empty word or a group, or a unit and its repetition.
  pub data IsUnit : List Lexeme → Regex → Type 0 where
    a_set : (s : set.FinSet nat_cmp) → IsUnit (set_of s ∷ []) (one_of s)
    a_string : (first : ℕ) (more : List ℕ) → IsUnit (quoted first more ∷ []) (joined (one_of (byte_set first)) more)
    a_name : (n : List ℕ) → IsUnit (name n ∷ []) (named n)
    a_group : (ls : List Lexeme) (r : Regex) → IsAlternation ls r → IsUnit (open_group ∷ ls ++ close_group ∷ []) r
    an_empty_word : IsUnit (empty_word ∷ []) nil
    repeated : (ls : List Lexeme) (r : Regex) (low : ℕ) (high : Option ℕ) → IsUnit ls r → IsUnit (ls ++ repeat low high ∷ []) (times r low high)
