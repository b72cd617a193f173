-- A mirror of the reader of lines: the meaning of a line of the second section by itself (XCU `lex`, "Rules in lex"), by the first form that fits it.
-- A law, `patterns_end`, says that its pattern ends as the grammar requires.
use Rattle.std.specs.Prelude.{ℕ, Bool, not, nat_eq, if◌then◌else◌, List, [], ◌∷◌, take, drop}
use Rattle.lx_ere.specs.PatternEnd.{pattern_end}
use Rattle.lx_spec.specs.Bytes.{is_blank, begins_with, run, behind_run}

-- the prefix of a pattern: nothing, a `<` with no `>` on its line, or the text between `<` and `>`
pub data RulePrefix : Type 0 where
  absent : RulePrefix
  unclosed : RulePrefix
  listed : (text : List ℕ) → RulePrefix

pub data RuleLine : Type 0 where
  -- empty or code
  skipped : RuleLine
  opens_group : RuleLine
  rules_end : RuleLine
  -- a rule begins, and its action with this text
  begins_rule : (prefix : RulePrefix) (pattern action : List ℕ) → RuleLine

abbrev pub is_inside : ℕ → Bool
is_inside c = not (nat_eq c 62)

-- the text that `<` encloses, and the text after its `>`
abbrev pub closed_prefix : List ℕ → List ℕ → RulePrefix × List ℕ
closed_prefix names [] = (unclosed, [])
closed_prefix names (c ∷ rest) = (listed names, rest)

-- the prefix, and the text after it
abbrev pub split_prefix : List ℕ → RulePrefix × List ℕ
split_prefix [] = (absent, [])
split_prefix (c ∷ text) = if nat_eq c 60 then closed_prefix (run is_inside text) (behind_run is_inside text) else (absent, c ∷ text)

-- a rule's line after its prefix: a pattern of n bytes, and after blanks the action
abbrev pub rule_split : ℕ → RulePrefix → List ℕ → RuleLine
rule_split n prefix text = begins_rule prefix (take n text) (behind_run is_blank (drop n text))

abbrev pub rule_begins : RulePrefix → List ℕ → RuleLine
rule_begins prefix text = rule_split (pattern_end text) prefix text

-- the first form that fits the line
abbrev pub rule_line_of : List ℕ → RuleLine
rule_line_of [] = skipped
rule_line_of (c ∷ text) =
    if is_blank c then skipped
    else if begins_with 37 123 (c ∷ text) then opens_group
    else if begins_with 37 37 (c ∷ text) then rules_end
    else rule_begins (split_prefix (c ∷ text)).0 (split_prefix (c ∷ text)).1
