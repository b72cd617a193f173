-- Decimal numbers and character constants of actions (XCU `lex`, "Actions in lex").
use Rattle.std.specs.Prelude.{ℕ, ◌+◌, ◌-◌, ◌*◌, ◌||◌, nat_eq, nat_lt, if◌then◌else◌, List, [], ◌∷◌, Option, Some, None}
use Rattle.lx_ere.specs.Lexing.{escape_at}

-- the number that decimal digits spell after n
abbrev pub decimal_behind : ℕ → List ℕ → ℕ
decimal_behind n [] = n
decimal_behind n (d ∷ digits) = decimal_behind (n * 10 + (d - 48)) digits

abbrev pub decimal_of : List ℕ → ℕ
decimal_of digits = decimal_behind 0 digits

-- the number that decimal digits spell, if it is below the limit
abbrev pub decimal_below : ℕ → List ℕ → Option ℕ
decimal_below limit digits = if nat_lt (decimal_of digits) limit then Some (decimal_of digits) else None

-- the byte that a constant encloses, from after its `'`: an escape as in patterns, or one byte other than `'` and newline
abbrev pub enclosed_at : List ℕ → Option (ℕ × List ℕ)
enclosed_at [] = None
enclosed_at (c ∷ text) = if nat_eq c 92 then escape_at text else if nat_eq c 39 || nat_eq c 10 then None else Some (c, text)

-- the text after a `'`
abbrev pub behind_quote : List ℕ → Option (List ℕ)
behind_quote [] = None
behind_quote (c ∷ text) = if nat_eq c 39 then Some text else None

abbrev pub closed_byte : ℕ → Option (List ℕ) → Option (ℕ × List ℕ)
closed_byte b None = None
closed_byte b (Some rest) = Some (b, rest)

abbrev pub closed_constant : Option (ℕ × List ℕ) → Option (ℕ × List ℕ)
closed_constant None = None
closed_constant (Some (b, text)) = closed_byte b (behind_quote text)

-- a constant, from after its first `'`: its byte, and the text after it
abbrev pub constant_at : List ℕ → Option (ℕ × List ℕ)
constant_at text = closed_constant (enclosed_at text)
