-- Kept trees. flex takes intervals with any bounds, and a tree of lx has bounds up to 255. So an interval with a greater bound is kept as two: one repeats `r{64}`, and one
-- after it repeats `r`. They match the same texts (`kept_trees_mean_the_same`). All other parts of a tree stay as they are written.
use Rattle.std.specs.Prelude.{◌≡◌, ℕ, ◌+◌, ◌*◌, ◌<◌, ◌≤◌, Bool, true, ◌&&◌, nat_le, Option, Some, None, List}
use Rattle.std.specs.Ordering.{nat_cmp}
use Rattle.std.specs.FinSet as set
use Rattle.lx_ere.specs.Regex.{Regex, nil, one_of, then, or, times, named}
use Rattle.lx_flex_pattern.specs.declared.options.PatternOptions.{PatternOptions}
use Rattle.lx_flex_pattern.specs.Lexing.{Definition}
use Rattle.lx_flex_pattern.specs.Reading.{FlexReading, IsFlexPattern}

-- `r{64}`
abbrev pub block : Regex → Regex
block r = times r 64 (Some 64)

-- The first tree is written, with any bounds, and the second one is kept. Where `(r{64}){p,q}` stands for several numbers, a word has few ways through the kept one, and an automaton
-- few positions in a state: `r{0,600}` is `(r{64}){0,8}r{0,88}`.
pub data IsKeptAs : (written kept : Regex) → Type 0 where
  keeps_nil : IsKeptAs nil nil
  keeps_set : (s : set.FinSet nat_cmp) → IsKeptAs (one_of s) (one_of s)
  keeps_name : (name : List ℕ) → IsKeptAs (named name) (named name)
  keeps_then : (a b r s : Regex) → IsKeptAs a r → IsKeptAs b s → IsKeptAs (then a b) (then r s)
  keeps_or : (a b r s : Regex) → IsKeptAs a r → IsKeptAs b s → IsKeptAs (or a b) (or r s)
  keeps_times : (a r : Regex) (n : ℕ) (m : Option ℕ) → IsKeptAs a r → IsKeptAs (times a n m) (times r n m)
  -- `r{n}` as `(r{64}){p}`
  as_blocks : (a r : Regex) (n p : ℕ) → IsKeptAs a r → 255 < n → n ≡ p * 64 → IsKeptAs (times a n (Some n)) (times (block r) p (Some p))
  -- `r{n,m}` as `(r{64}){p}r{c,e}`
  as_blocks_before : (a r : Regex) (n m p c e : ℕ) → IsKeptAs a r → 255 < m → n ≡ p * 64 + c → m ≡ p * 64 + e →
      IsKeptAs (times a n (Some m)) (then (times (block r) p (Some p)) (times r c (Some e)))
  -- `r{n,m}` as `(r{64}){p,q}r{c,e}`. The rest takes each number from c to c + 63, so none between n and m is left out.
  as_some_blocks_before : (a r : Regex) (n m p q c e : ℕ) → IsKeptAs a r → 255 < m → n ≡ p * 64 + c → m ≡ q * 64 + e → p ≤ q → c + 63 ≤ e →
      IsKeptAs (times a n (Some m)) (then (times (block r) p (Some q)) (times r c (Some e)))
  -- `r{n,}` as `(r{64}){p}r{c,}`
  as_blocks_at_least : (a r : Regex) (n p c : ℕ) → IsKeptAs a r → 255 < n → n ≡ p * 64 + c →
      IsKeptAs (times a n None) (then (times (block r) p (Some p)) (times r c None))

-- the bound is at most 255
abbrev pub is_small : Option ℕ → Bool
is_small None = true
is_small (Some m) = nat_le m 255

-- no bound of an interval is above 255
abbrev pub has_small_bounds : Regex → Bool
has_small_bounds nil = true
has_small_bounds (one_of s) = true
has_small_bounds (then a b) = has_small_bounds a && has_small_bounds b
has_small_bounds (or a b) = has_small_bounds a && has_small_bounds b
has_small_bounds (times body n m) = (nat_le n 255 && is_small m) && has_small_bounds body
has_small_bounds (named name) = true

-- the same of a tree that may be missing
pub data AreKeptAs : (written kept : Option Regex) → Type 0 where
  keeps_none : AreKeptAs None None
  keeps_some : (t r : Regex) → IsKeptAs t r → AreKeptAs (Some t) (Some r)

-- The reading has the anchors and the length of the one that is written, and keeps its trees.
pub record KeepsReading (written kept : FlexReading) : Type 0 where
  pub begins : kept.line_begin ≡ written.line_begin
  pub ends : kept.line_end ≡ written.line_end
  pub tree : IsKeptAs written.tree kept.tree
  pub trailing : AreKeptAs written.trailing kept.trailing
  pub bytes : kept.length ≡ written.length

-- The text begins with a pattern, and this reading keeps that of the pattern.
pub record KeepsPattern (o : PatternOptions) (names : List ℕ → Option Definition) (text : List ℕ) (kept : FlexReading) : Type 0 where
  pub written : FlexReading
  pub is_pattern : IsFlexPattern o names text written
  pub keeps : KeepsReading written kept
