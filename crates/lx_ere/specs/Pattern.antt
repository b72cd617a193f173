-- The meaning of a text as a pattern or as a substitute (XCU `lex`, "Regular Expressions in lex", "Definitions in lex").
use Rattle.std.specs.Prelude.{◌≡◌, ℕ, ◌≤◌, Bool, true, false, if◌then◌else◌, List, [], ◌∷◌, length}
use Rattle.lx_ere.specs.Limits.{max_pattern_bytes}
use Rattle.lx_ere.specs.Regex.{Regex, Reading}
use Rattle.lx_ere.specs.Grammar.{Lexeme, IsAlternation}
use Rattle.lx_ere.specs.Spelling.{Lexes}

-- A text that may follow the alternation, and a flag that is true if it is the anchor: nothing; `$`; `/\n`.
pub data IsEnding : List ℕ → Bool → Type 0 where
  nothing : IsEnding [] false
  dollar : IsEnding (36 ∷ []) true
  slash_newline : IsEnding (47 ∷ 92 ∷ 110 ∷ []) true

-- The text is a pattern and this is its reading: `^` or nothing, the spellings of an alternation, and an ending.
pub record IsPattern (text : List ℕ) (reading : Reading) : Type 0 where
  pub short : length text ≤ max_pattern_bytes
  pub body : List ℕ
  pub lexemes : List Lexeme
  pub ending : List ℕ
  pub begins : text ≡ (if reading.line_begin then 94 ∷ body else body)
  pub spelled : Lexes body lexemes ending
  pub alternation : IsAlternation lexemes reading.tree
  pub ends : IsEnding ending reading.line_end

-- The text is a substitute and this is its tree: the spellings of an alternation.
pub record IsSubstitute (text : List ℕ) (tree : Regex) : Type 0 where
  pub short : length text ≤ max_pattern_bytes
  pub lexemes : List Lexeme
  pub spelled : Lexes text lexemes []
  pub alternation : IsAlternation lexemes tree
