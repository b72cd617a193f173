-- Actions: their statements, and the parts of them that are kept (XCU `lex`, "Actions in lex").
use Rattle.std.specs.Prelude.{◌≡◌, ℕ, suc, Bool, true, false, not, ◌&&◌, ◌||◌, nat_eq, if◌then◌else◌, List, [], ◌∷◌, Option, Some, None, codes}
use Rattle.std.specs.List.{list_all}
use Rattle.std.specs.Cmp.Lexicographic.{pointwise}
use Rattle.lx_rules.specs.Identifiers.{is_digit, is_identifier}
use Rattle.lx_rules.specs.Limits.{returned_number_limit}
use Rattle.lx_spec.specs.Lines.{is_empty}
use Rattle.lx_spec.specs.Constants.{decimal_below}
use Rattle.lx_spec.specs.ActionWords.{Word, letters, byte, bar, semicolon, open_brace, close_brace, open_group, close_group, AreWords}

-- a returned value, as the text has it
pub data Value : Type 0 where
  name : (text : List ℕ) → Value
  number : (n : ℕ) → Value

pub data Statement : Type 0 where
  nothing : Statement
  echo : Statement
  begin : (condition : List ℕ) → Statement
  return : (value : Value) → Statement

-- `0`, or digits of which the first isn't 0
abbrev pub is_decimal : List ℕ → Bool
is_decimal [] = false
is_decimal (c ∷ text) = list_all is_digit (c ∷ text) && (not (nat_eq c 48) || is_empty text)

abbrev pub number_or_none : Option ℕ → Option Value
number_or_none None = None
number_or_none (Some n) = Some (number n)

-- the value of letters and digits: an identifier, or a decimal number below 2 ^ 31
abbrev pub letters_value : List ℕ → Option Value
letters_value text =
    if is_identifier text then Some (name text) else if is_decimal text then number_or_none (decimal_below returned_number_limit text) else None

-- the value of a word that is returned
abbrev pub value_of : Word → Option Value
value_of (letters text) = letters_value text
value_of (byte b) = Some (number b)
value_of bar = None
value_of semicolon = None
value_of open_brace = None
value_of close_brace = None
value_of open_group = None
value_of close_group = None

-- the name of a condition: an identifier, or 0
abbrev pub is_condition_name : List ℕ → Bool
is_condition_name text = is_identifier text || pointwise nat_eq text (48 ∷ [])

-- the condition of a word after BEGIN
abbrev pub condition_of : Word → Option (List ℕ)
condition_of (letters text) = if is_condition_name text then Some text else None
condition_of (byte b) = None
condition_of bar = None
condition_of semicolon = None
condition_of open_brace = None
condition_of close_brace = None
condition_of open_group = None
condition_of close_group = None

abbrev pub behind_word : Word → List Word → Option (Word × List Word)
behind_word w [] = None
behind_word w (close_group ∷ ws) = Some (w, ws)
behind_word w (_ ∷ ws) = None

abbrev pub in_group : List Word → Option (Word × List Word)
in_group [] = None
in_group (w ∷ ws) = behind_word w ws

-- one word, or one word in parentheses, and the words after it
abbrev pub operand_at : List Word → Option (Word × List Word)
operand_at [] = None
operand_at (open_group ∷ ws) = in_group ws
operand_at (w ∷ ws) = Some (w, ws)

-- the statement, if a semicolon follows it
abbrev pub ended : Statement → List Word → Option (Statement × List Word)
ended s [] = None
ended s (semicolon ∷ ws) = Some (s, ws)
ended s (_ ∷ ws) = None

abbrev pub returned : Option Value → List Word → Option (Statement × List Word)
returned None ws = None
returned (Some v) ws = ended (return v) ws

abbrev pub return_at : Option (Word × List Word) → Option (Statement × List Word)
return_at None = None
return_at (Some (w, ws)) = returned (value_of w) ws

abbrev pub begun : Option (List ℕ) → List Word → Option (Statement × List Word)
begun None ws = None
begun (Some c) ws = ended (begin c) ws

abbrev pub begin_at : Option (Word × List Word) → Option (Statement × List Word)
begin_at None = None
begin_at (Some (w, ws)) = begun (condition_of w) ws

-- `return K;` or `return (K);`, `ECHO;`, `BEGIN C;` or `BEGIN(C);`, by the first word
abbrev pub letters_at : List ℕ → List Word → Option (Statement × List Word)
letters_at text ws =
    if pointwise nat_eq text (codes "return") then return_at (operand_at ws)
    else if pointwise nat_eq text (codes "ECHO") then ended echo ws
    else if pointwise nat_eq text (codes "BEGIN") then begin_at (operand_at ws)
    else None

-- the front of some words
pub data Turn : Type 0 where
  finished : Turn
  -- a brace, and the words after it
  opens : (rest : List Word) → Turn
  closes : (rest : List Word) → Turn
  -- a statement, and the words after it
  states : (s : Statement) (rest : List Word) → Turn
  no_statement : Turn

abbrev pub stated_or_none : Option (Statement × List Word) → Turn
stated_or_none None = no_statement
stated_or_none (Some (s, rest)) = states s rest

abbrev pub turn_at : List Word → Turn
turn_at [] = finished
turn_at (open_brace ∷ ws) = opens ws
turn_at (close_brace ∷ ws) = closes ws
turn_at (semicolon ∷ ws) = states nothing ws
turn_at (letters text ∷ ws) = stated_or_none (letters_at text ws)
turn_at (_ ∷ ws) = no_statement

-- With this number of open braces, the words are these statements, one after the other, and each brace is closed.
pub data AreStatements : ℕ → List Word → List Statement → Type 0 where
  none : (ws : List Word) → turn_at ws ≡ finished → AreStatements 0 ws []
  opened : (depth : ℕ) (ws rest : List Word) (ss : List Statement) → turn_at ws ≡ opens rest → AreStatements (suc depth) rest ss → AreStatements depth ws ss
  closed : (depth : ℕ) (ws rest : List Word) (ss : List Statement) → turn_at ws ≡ closes rest → AreStatements depth rest ss → AreStatements (suc depth) ws ss
  stated : (depth : ℕ) (ws rest : List Word) (s : Statement) (ss : List Statement) → turn_at ws ≡ states s rest → AreStatements depth rest ss → AreStatements depth ws (s ∷ ss)

abbrev pub is_no_word : List Word → Bool
is_no_word [] = true
is_no_word (w ∷ ws) = false

-- the words are a single `|`
abbrev pub is_bar : List Word → Bool
is_bar [] = false
is_bar (bar ∷ ws) = is_no_word ws
is_bar (_ ∷ ws) = false

pub data Action : Type 0 where
  -- `|`: the action of the next rule
  shared : Action
  own : (statements : List Statement) → Action

-- The text is this action.
pub data IsAction (text : List ℕ) : Action → Type 0 where
  a_bar : AreWords text (bar ∷ []) → IsAction text shared
  some_statements : (ws : List Word) (ss : List Statement) → AreWords text ws → AreStatements 0 ws ss → IsAction text (own ss)
