-- The end of a rule's pattern, as a grammar: the first blank outside escapes, quotes and brackets (XCU `lex`, "Rules in lex").
use Rattle.std.specs.Prelude.{◌≡◌, ◌≢◌, ℕ, ◌≤◌, Bool, true, false, ◌&&◌, ◌||◌, nat_eq, if◌then◌else◌, List, [], ◌∷◌, length, drop}
use Rattle.lx_ere.specs.Brackets.{begins_with, opens_inner}

-- The text after a quoted string, given the text after its opening quote: all after the next `"` that no backslash escapes. It is empty if the string
-- isn't closed.
pub data BehindQuotes : List ℕ → List ℕ → Type 0 where
  quote_closes : (text : List ℕ) → BehindQuotes (34 ∷ text) text
  quote_open : BehindQuotes [] []
  quote_escape : (c : ℕ) (text behind : List ℕ) → BehindQuotes text behind → BehindQuotes (92 ∷ c ∷ text) behind
  quote_slash : BehindQuotes (92 ∷ []) []
  quote_byte : (c : ℕ) (text behind : List ℕ) → c ≢ 34 → c ≢ 92 → BehindQuotes text behind → BehindQuotes (c ∷ text) behind

-- The text after the first mark that a `]` follows directly. It is empty if there is none.
pub data BehindMark : ℕ → List ℕ → List ℕ → Type 0 where
  mark_closes : (mark : ℕ) (text : List ℕ) → BehindMark mark (mark ∷ 93 ∷ text) text
  mark_open : (mark : ℕ) → BehindMark mark [] []
  mark_byte : (mark c : ℕ) (text behind : List ℕ) → (nat_eq c mark && begins_with 93 text) ≡ false → BehindMark mark text behind → BehindMark mark (c ∷ text) behind

-- `[` is this byte, and this mark, one of `:`, `.` and `=`, follows it directly.
pub record IsInner (mark first : ℕ) (behind : List ℕ) : Type 0 where
  pub opens : first ≡ 91
  pub is_mark : (nat_eq mark 58 || (nat_eq mark 46 || nat_eq mark 61)) ≡ true
  pub follows_mark : behind ≡ mark ∷ drop 1 behind

-- The text after brackets, given the text after their first `^` and `]`: all after the next `]` that no backslash escapes and that is in no `[:` to
-- `:]`, `[.` to `.]` or `[=` to `=]`. These have at least one byte between them. It is empty if the brackets aren't closed.
pub data BehindBrackets : List ℕ → List ℕ → Type 0 where
  bracket_closes : (text : List ℕ) → BehindBrackets (93 ∷ text) text
  bracket_open : BehindBrackets [] []
  bracket_escape : (c : ℕ) (text behind : List ℕ) → BehindBrackets text behind → BehindBrackets (92 ∷ c ∷ text) behind
  bracket_slash : BehindBrackets (92 ∷ []) []
  bracket_inner : (mark : ℕ) (text rest behind : List ℕ) → (nat_eq mark 58 || (nat_eq mark 46 || nat_eq mark 61)) ≡ true → BehindMark mark (drop 1 text) rest →
      BehindBrackets rest behind → BehindBrackets (91 ∷ mark ∷ text) behind
  bracket_byte : (c : ℕ) (text behind : List ℕ) → c ≢ 93 → c ≢ 92 → opens_inner c text ≡ false → BehindBrackets text behind → BehindBrackets (c ∷ text) behind

-- the text after the byte, if the text begins with it
abbrev pub skip_first : ℕ → List ℕ → List ℕ
skip_first c text = if begins_with c text then drop 1 text else text

abbrev pub is_blank : ℕ → Bool
is_blank c = nat_eq c 32 || nat_eq c 9

-- The text after a pattern: all from the first blank on that is in no escape, quotes or brackets. It is empty if there is none.
pub data BehindPattern : List ℕ → List ℕ → Type 0 where
  at_end : BehindPattern [] []
  at_blank : (c : ℕ) (text : List ℕ) → is_blank c ≡ true → BehindPattern (c ∷ text) (c ∷ text)
  past_escape : (c : ℕ) (text behind : List ℕ) → BehindPattern text behind → BehindPattern (92 ∷ c ∷ text) behind
  past_slash : BehindPattern (92 ∷ []) []
  past_quotes : (text rest behind : List ℕ) → BehindQuotes text rest → BehindPattern rest behind → BehindPattern (34 ∷ text) behind
  past_brackets : (text rest behind : List ℕ) → BehindBrackets (skip_first 93 (skip_first 94 text)) rest → BehindPattern rest behind → BehindPattern (91 ∷ text) behind
  past_byte : (c : ℕ) (text behind : List ℕ) → is_blank c ≡ false → c ≢ 92 → c ≢ 34 → c ≢ 91 → BehindPattern text behind → BehindPattern (c ∷ text) behind

-- The pattern at the front of the text has n bytes.
pub record IsPatternEnd (text : List ℕ) (n : ℕ) : Type 0 where
  pub within : n ≤ length text
  pub behind : BehindPattern text (drop n text)
