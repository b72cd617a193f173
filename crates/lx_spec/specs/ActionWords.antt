-- The words of an action (XCU `lex`, "Actions in lex").
use Rattle.std.specs.Prelude.{◌≡◌, ℕ, Bool, not, ◌||◌, nat_eq, if◌then◌else◌, List, [], ◌∷◌, drop, Option, Some, None}
use Rattle.lx_rules.specs.Identifiers.{is_word_byte}
use Rattle.lx_spec.specs.Bytes.{is_blank, begins_with, run, behind_run}
use Rattle.lx_spec.specs.Constants.{constant_at}

pub data Word : Type 0 where
  -- a longest run of letters, digits and _
  letters : (text : List ℕ) → Word
  -- a constant, by its byte
  byte : (b : ℕ) → Word
  bar : Word
  semicolon : Word
  open_brace : Word
  close_brace : Word
  open_group : Word
  close_group : Word

-- the front of a text
pub data WordConstruct : Type 0 where
  ended : WordConstruct
  -- a blank, a line's end or a comment, and the text after it
  passed : (rest : List ℕ) → WordConstruct
  -- a word, and the text after it
  word : (w : Word) (rest : List ℕ) → WordConstruct
  no_word : WordConstruct

-- the word of one byte
abbrev pub sign_of : ℕ → Option Word
sign_of c =
    if nat_eq c 124 then Some bar
    else if nat_eq c 59 then Some semicolon
    else if nat_eq c 123 then Some open_brace
    else if nat_eq c 125 then Some close_brace
    else if nat_eq c 40 then Some open_group
    else if nat_eq c 41 then Some close_group
    else None

abbrev pub word_or_none : Option Word → List ℕ → WordConstruct
word_or_none None rest = no_word
word_or_none (Some w) rest = word w rest

abbrev pub constant_or_none : Option (ℕ × List ℕ) → WordConstruct
constant_or_none None = no_word
constant_or_none (Some (b, rest)) = word (byte b) rest

-- The text after the first `*/`, if there is one.
abbrev pub behind_comment : List ℕ → Option (List ℕ)
behind_comment [] = None
behind_comment (c ∷ text) = if begins_with 42 47 (c ∷ text) then Some (drop 1 text) else behind_comment text

abbrev pub passed_or_none : Option (List ℕ) → WordConstruct
passed_or_none None = no_word
passed_or_none (Some rest) = passed rest

abbrev pub is_no_newline : ℕ → Bool
is_no_newline c = not (nat_eq c 10)

-- a comment over lines, from after its `/` on
abbrev pub comment_at : List ℕ → WordConstruct
comment_at [] = no_word
comment_at (c ∷ text) = passed_or_none (behind_comment text)

abbrev pub letters_piece : List ℕ → WordConstruct
letters_piece text = word (letters (run is_word_byte text)) (behind_run is_word_byte text)

-- a constant, or a word of one byte
abbrev pub sign_piece : ℕ → List ℕ → WordConstruct
sign_piece c text = if nat_eq c 39 then constant_or_none (constant_at text) else word_or_none (sign_of c) text

-- the first form that fits the front of the text
abbrev pub piece_at : List ℕ → WordConstruct
piece_at [] = ended
piece_at (c ∷ text) =
    if is_blank c || nat_eq c 10 then passed text
    else if begins_with 47 42 (c ∷ text) then comment_at text
    else if begins_with 47 47 (c ∷ text) then passed (behind_run is_no_newline text)
    else if is_word_byte c then letters_piece (c ∷ text)
    else sign_piece c text

-- The text is these words, one after the other, with blanks, lines' ends and comments between.
pub data AreWords : List ℕ → List Word → Type 0 where
  none : (text : List ℕ) → piece_at text ≡ ended → AreWords text []
  behind_passed : (text rest : List ℕ) (ws : List Word) → piece_at text ≡ passed rest → AreWords rest ws → AreWords text ws
  behind_word : (text rest : List ℕ) (w : Word) (ws : List Word) → piece_at text ≡ word w rest → AreWords rest ws → AreWords text (w ∷ ws)
