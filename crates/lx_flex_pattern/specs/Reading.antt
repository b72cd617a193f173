-- The reading of a text as a pattern of flex (flex's manual, "Patterns"; its grammar of rules).
use Rattle.std.specs.Prelude.{◌≡◌, ℕ, zero, suc, ◌+◌, ◌-◌, Bool, true, false, List, ◌++◌, Option, Some, None, length}
use Rattle.std.specs.Option.{option_map}
use Rattle.lx_ere.specs.Regex.{Regex}
use Rattle.lx_ere.specs.Grammar.{Lexeme, IsAlternation}
use Rattle.lx_flex_pattern.specs.declared.options.PatternOptions.{PatternOptions}
use Rattle.lx_flex_pattern.specs.Lexing.{Definition, State, initial, Piece, piece_at, goes, inserts, ends, ends_line, slash, wrong}

-- The place of a part: its state, the text from there on, and the number of that text's first bytes that definitions inserted.
pub record Place : Type 0 where
  pub state : State
  pub inserted : ℕ
  pub text : List ℕ

abbrev pub place : State → ℕ → List ℕ → Place
place st n text = record { state = st; inserted = n; text = text }

-- the place after a part, from which on this is the text
abbrev pub behind_part : Place → State → List ℕ → Place
behind_part p st rest = place st (p.inserted - (length p.text - length rest)) rest

-- the place after a definition's name, at its text
abbrev pub at_text : Place → State → List ℕ → List ℕ → Place
at_text p st front rest = place st (length front + (p.inserted - (length p.text - length rest))) (front ++ rest)

-- the end of a row of parts: the end of the pattern, a `$` before it, or a `/`
pub data Stop : Type 0 where
  at_end : Stop
  at_dollar : Stop
  at_slash : Stop

abbrev pub before : List Lexeme → Option (List Lexeme × Stop × Place) → Option (List Lexeme × Stop × Place)
before ls row = option_map (λ r. (ls ++ r.0, r.1, r.2)) row

-- the lexemes of a part, before those of the row after it
abbrev pub row_of : (Place → Option (List Lexeme × Stop × Place)) → Place → Piece → Option (List Lexeme × Stop × Place)
row_of next p (goes ls st rest) = before ls (next (behind_part p st rest))
row_of next p (inserts ls st front rest) = before ls (next (at_text p st front rest))
row_of next p (ends ls st rest) = Some (ls, at_end, behind_part p st rest)
row_of next p (ends_line ls st rest) = Some (ls, at_dollar, behind_part p st rest)
row_of next p (slash ls st rest) = Some (ls, at_slash, behind_part p st rest)
row_of next p wrong = None

-- the lexemes of a row of at most k parts, its stop, and the place after it
abbrev pub row : ℕ → PatternOptions → (List ℕ → Option Definition) → Place → Option (List Lexeme × Stop × Place)
row zero o names p = None
row (suc k) o names p = row_of (row k o names) p (piece_at o names p.state p.text)

-- From the place on, the parts up to this stop have these lexemes, and the last place follows.
pub record Lexes (o : PatternOptions) (names : List ℕ → Option Definition) (p : Place) (ls : List Lexeme) (stop : Stop) (last : Place) : Type 0 where
  pub parts : ℕ
  pub lexed : row parts o names p ≡ Some (ls, stop, last)

-- The parts from the place on are an alternation, and this is its tree.
pub record Reads (o : PatternOptions) (names : List ℕ → Option Definition) (p : Place) (tree : Regex) (stop : Stop) (last : Place) : Type 0 where
  pub lexemes : List Lexeme
  pub lexed : Lexes o names p lexemes stop last
  pub alternation : IsAlternation lexemes tree

-- a pattern: its anchors, its tree, that of the trailing context after a `/`, and its number of bytes
pub record FlexReading : Type 0 where
  pub line_begin : Bool
  pub line_end : Bool
  pub tree : Regex
  pub trailing : Option Regex
  pub length : ℕ

-- The pattern of n bytes ends here, in the file's own text.
pub record EndsAt (text : List ℕ) (n : ℕ) (last : Place) : Type 0 where
  pub own : last.inserted ≡ 0
  pub whole : n + length last.text ≡ length text

-- The text begins with a pattern, and this is its reading: an alternation; one with a `$`; or one, a `/` and another one.
pub data IsFlexPattern : PatternOptions → (List ℕ → Option Definition) → List ℕ → FlexReading → Type 0 where
  plain : (o : PatternOptions) (names : List ℕ → Option Definition) (text : List ℕ) (tree : Regex) (last : Place) (n : ℕ) →
      Reads o names (place (initial o) 0 text) tree at_end last → EndsAt text n last →
      IsFlexPattern o names text (record { line_begin = last.state.line_begin; line_end = false; tree = tree; trailing = None; length = n })
  with_dollar : (o : PatternOptions) (names : List ℕ → Option Definition) (text : List ℕ) (tree : Regex) (last : Place) (n : ℕ) →
      Reads o names (place (initial o) 0 text) tree at_dollar last → EndsAt text n last →
      IsFlexPattern o names text (record { line_begin = last.state.line_begin; line_end = true; tree = tree; trailing = None; length = n })
  with_context : (o : PatternOptions) (names : List ℕ → Option Definition) (text : List ℕ) (tree trailing : Regex) (middle last : Place) (n : ℕ) →
      Reads o names (place (initial o) 0 text) tree at_slash middle → Reads o names middle trailing at_end last → EndsAt text n last →
      IsFlexPattern o names text (record { line_begin = middle.state.line_begin; line_end = false; tree = tree; trailing = Some trailing; length = n })
