-- Bracket expressions (XBD 9.3.5, with the escapes of `lex`).
use Rattle.std.specs.Prelude.{◌≡◌, ◌≢◌, ℕ, ◌≤◌, Bool, true, false, not, ◌&&◌, ◌||◌, nat_eq, if◌then◌else◌, List, [], ◌∷◌, ◌++◌, Option, Some, None, codes}
use Rattle.std.specs.List.{list_any}
use Rattle.std.specs.Str.{bytes_eq}
use Rattle.std.specs.Ordering.{nat_cmp}
use Rattle.std.specs.FinSet as set
use Rattle.lx_ere.specs.Bytes.{in_ranges, bytes_where}
use Rattle.lx_ere.specs.Escapes.{Escape}
use Rattle.lx_ere.specs.Sequences.{Opened}

-- the position in the brackets: directly after `[`, directly after `[^`, or later
pub data BracketPosition : Type 0 where
  opening : BracketPosition
  behind_caret : BracketPosition
  inside : BracketPosition

abbrev pub is_opening : BracketPosition → Bool
is_opening opening = true
is_opening behind_caret = false
is_opening inside = false

abbrev pub is_inside : BracketPosition → Bool
is_inside opening = false
is_inside behind_caret = false
is_inside inside = true

-- the byte is at the start
abbrev pub begins_with : ℕ → List ℕ → Bool
begins_with c [] = false
begins_with c (d ∷ text) = nat_eq d c

-- `[` before one of `:`, `.` and `=`
abbrev pub opens_inner : ℕ → List ℕ → Bool
opens_inner c behind = nat_eq c 91 && (begins_with 58 behind || (begins_with 46 behind || begins_with 61 behind))

-- A byte that represents itself at the position: it is none of `]`, `\`, `-` and a newline, no `^` directly after `[`, and no `[` before `:`, `.` or
-- `=`.
abbrev pub stands_alone : BracketPosition → ℕ → List ℕ → Bool
stands_alone position c behind = not (nat_eq c 93 || (nat_eq c 92 || (nat_eq c 45 || (nat_eq c 10 || ((is_opening position && nat_eq c 94) || opens_inner c behind)))))

-- `-` is at the start, and not directly before the closing bracket
abbrev pub range_follows : List ℕ → Bool
range_follows [] = false
range_follows (c ∷ text) = nat_eq c 45 && not (begins_with 93 text)

-- With `behind` after it, the text is one byte: a byte for itself, an escape, `]` first in the brackets, `-` first or directly before the closing
-- bracket, or `[.c.]`.
pub data Point : BracketPosition → List ℕ → ℕ → List ℕ → Type 0 where
  plain_point : (position : BracketPosition) (c : ℕ) (behind : List ℕ) → stands_alone position c behind ≡ true → Point position (c ∷ []) c behind
  escaped : (position : BracketPosition) (text : List ℕ) (c : ℕ) (behind : List ℕ) → Escape text c behind → Point position text c behind
  first_bracket : (position : BracketPosition) (behind : List ℕ) → is_inside position ≡ false → Point position (93 ∷ []) 93 behind
  outer_dash : (position : BracketPosition) (behind : List ℕ) → (not (is_inside position) || begins_with 93 behind) ≡ true → Point position (45 ∷ []) 45 behind
  collating : (position : BracketPosition) (c : ℕ) (behind : List ℕ) → c ≢ 10 → Point position (91 ∷ 46 ∷ c ∷ 46 ∷ 93 ∷ []) c behind

-- With `behind` after it, the text is the end of a range: a point or `-`.
pub data RangeEnd : List ℕ → ℕ → List ℕ → Type 0 where
  end_point : (text : List ℕ) (c : ℕ) (behind : List ℕ) → Point inside text c behind → RangeEnd text c behind
  end_dash : (behind : List ℕ) → RangeEnd (45 ∷ []) 45 behind

-- the ranges of bytes of a class, by its name
abbrev pub class_ranges : List ℕ → Option (List (ℕ × ℕ))
class_ranges name =
    if bytes_eq name (codes "upper") then Some ((65, 90) ∷ [])
    else if bytes_eq name (codes "lower") then Some ((97, 122) ∷ [])
    else if bytes_eq name (codes "alpha") then Some ((65, 90) ∷ (97, 122) ∷ [])
    else if bytes_eq name (codes "digit") then Some ((48, 57) ∷ [])
    else if bytes_eq name (codes "alnum") then Some ((48, 57) ∷ (65, 90) ∷ (97, 122) ∷ [])
    else if bytes_eq name (codes "xdigit") then Some ((48, 57) ∷ (65, 70) ∷ (97, 102) ∷ [])
    else if bytes_eq name (codes "space") then Some ((9, 13) ∷ (32, 32) ∷ [])
    else if bytes_eq name (codes "blank") then Some ((9, 9) ∷ (32, 32) ∷ [])
    else if bytes_eq name (codes "punct") then Some ((33, 47) ∷ (58, 64) ∷ (91, 96) ∷ (123, 126) ∷ [])
    else if bytes_eq name (codes "print") then Some ((32, 126) ∷ [])
    else if bytes_eq name (codes "graph") then Some ((33, 126) ∷ [])
    else if bytes_eq name (codes "cntrl") then Some ((0, 31) ∷ (127, 127) ∷ [])
    else None

-- With `behind` after it, the text is a member of the brackets, with its ranges of bytes: a point, `[=c=]`, a class, or a range. A point begins a
-- range exactly if a `-` follows it that isn't directly before the closing bracket.
pub data Member : BracketPosition → List ℕ → List (ℕ × ℕ) → List ℕ → Type 0 where
  point : (position : BracketPosition) (text : List ℕ) (c : ℕ) (behind : List ℕ) → Point position text c behind → range_follows behind ≡ false → Member position text ((c, c) ∷ []) behind
  range : (position : BracketPosition) (text : List ℕ) (low : ℕ) (text' : List ℕ) (high : ℕ) (behind : List ℕ) → Point position text low (45 ∷ (text' ++ behind)) →
      range_follows (45 ∷ (text' ++ behind)) ≡ true → RangeEnd text' high behind → low ≤ high → Member position (text ++ (45 ∷ text')) ((low, high) ∷ []) behind
  equivalence : (position : BracketPosition) (c : ℕ) (behind : List ℕ) → c ≢ 10 → Member position (91 ∷ 61 ∷ c ∷ 61 ∷ 93 ∷ []) ((c, c) ∷ []) behind
  class : (position : BracketPosition) (name : List ℕ) (ranges : List (ℕ × ℕ)) (behind : List ℕ) → class_ranges name ≡ Some ranges →
      Member position (91 ∷ 58 ∷ (name ++ (58 ∷ 93 ∷ []))) ranges behind

-- true if the byte is in one of the members
abbrev pub in_members : List (List (ℕ × ℕ)) → ℕ → Bool
in_members members b = list_any (λ ranges. in_ranges ranges b) members

-- With `behind` after it, the text is a bracket expression of the set. With `^` the set has all other bytes, including a newline.
pub data Bracket : List ℕ → set.FinSet nat_cmp → List ℕ → Type 0 where
  matching : (text : List ℕ) (m : List (ℕ × ℕ)) (members : List (List (ℕ × ℕ))) (behind : List ℕ) →
      Opened (Member opening) (Member inside) 93 text m members behind → Bracket (91 ∷ text) (bytes_where (in_members (m ∷ members))) behind
  excluding : (text : List ℕ) (m : List (ℕ × ℕ)) (members : List (List (ℕ × ℕ))) (behind : List ℕ) →
      Opened (Member behind_caret) (Member inside) 93 text m members behind → Bracket (91 ∷ 94 ∷ text) (bytes_where (λ b. not (in_members (m ∷ members) b))) behind
