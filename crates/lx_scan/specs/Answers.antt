-- The choice by the answers of tables: the length of a match, and its rule (XCU `lex`, "Rules in lex": the longest match).
use Rattle.std.specs.Prelude.{◌≡◌, ℕ, zero, suc, ◌-◌, ◌<◌, ◌≤◌, Bool, nat_lt, if◌then◌else◌, List, Option, Some, None, MatchOption, length, take}
use Rattle.std.specs.Option.{option_map, option_or}
use Rattle.lx_automaton.specs.Automata.{answer}
use Rattle.lx_tables.specs.Model.{Table, rule_at}

-- the number of the token's bytes among m bytes: if the rule ends with `$`, the last one is a newline and not part of it
abbrev pub token_len : Table → ℕ → ℕ → ℕ
token_len table rule m = if (rule_at table rule).line_end then m - 1 else m

-- After the first m bytes of the text, at least one, the answer is this rule. Its token has n bytes, at least one.
pub record IsAnswered (table : Table) (condition : ℕ) (begin : Bool) (text : List ℕ) (m rule n : ℕ) : Type 0 where
  pub some : 0 < m
  pub within : m ≤ length text
  pub answered : answer table.machine condition begin (take m text) ≡ Some rule
  pub len : n ≡ token_len table rule m
  pub token : 0 < n

-- the greatest such m
pub record IsGreatest (table : Table) (condition : ℕ) (begin : Bool) (text : List ℕ) (rule n : ℕ) : Type 0 where
  pub m : ℕ
  pub answered : IsAnswered table condition begin text m rule n
  pub greatest : (k other l : ℕ) → IsAnswered table condition begin text k other l → k ≤ m

-- The choice by answers is a rule and the length of its token; none if there is no such m.
abbrev pub IsByAnswers : Table → ℕ → Bool → List ℕ → Option (ℕ × ℕ) → Type 0
IsByAnswers table condition begin text choice =
    MatchOption choice ((m rule n : ℕ) → IsAnswered table condition begin text m rule n → ⊥)
    (λ found. IsGreatest table condition begin text found.0 found.1)

-- ---- the same as a function
--  the answer after m bytes, with m, if it is a rule that has a token there
abbrev pub match_after : Table → Option ℕ → ℕ → Option (ℕ × ℕ)
match_after table None m = None
match_after table (Some rule) m = if nat_lt 0 (token_len table rule m) then Some (rule, m) else None

-- the match after this number of bytes, or else the one after the most bytes below
abbrev pub furthest : Table → ℕ → Bool → List ℕ → ℕ → Option (ℕ × ℕ)
furthest table condition begin text zero = None
furthest table condition begin text (suc m) =
    option_or (match_after table (answer table.machine condition begin (take (suc m) text)) (suc m)) (furthest table condition begin text m)

-- the rule that is chosen, and the length of its token
abbrev pub choice_of : Table → ℕ → Bool → List ℕ → Option (ℕ × ℕ)
choice_of table condition begin text = option_map (λ found. (found.0, token_len table found.0 found.1)) (furthest table condition begin text (length text))
