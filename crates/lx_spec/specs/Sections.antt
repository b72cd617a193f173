-- The sections of a text: their entries, and the declarations of these or the first fault among them (XCU `lex`, "Input Files").
use Rattle.std.specs.Prelude.{◌≡◌, ◌≢◌, ℕ, ◌+◌, Bool, true, false, nat_eq, nat_lt, if◌then◌else◌, List, [], ◌∷◌, ◌++◌, length, Option, Some, None, Result, Ok, Err}
use Rattle.std.specs.List.{list_any}
use Rattle.std.specs.Cmp.Lexicographic.{pointwise}
use Rattle.lx_rules.specs.Limits.{max_definitions, max_rules, max_start_conditions}
use Rattle.lx_rules.specs.Plain.{StartCondition}
use Rattle.lx_spec.specs.Bytes.{lines, begins_with, has_pair}
use Rattle.lx_spec.specs.Blocks.{start, with_line, is_closed}
use Rattle.lx_spec.specs.Faults.{fault, out_of_memory}
use Rattle.lx_spec.specs.Lines.{line_of, skipped, opens_comment, opens_group, rules_begin, declares, defines, no_form}
use Rattle.lx_spec.specs.RuleLines as rule_line
use Rattle.lx_spec.specs.RuleLines.{RulePrefix, rule_line_of}
use Rattle.lx_spec.specs.declared.block.Count.{Count}
use Rattle.lx_spec.specs.declared.fault.Code.TheVariants as code
use Rattle.lx_spec.specs.declared.fault.SpecFault.{SpecFault}

-- a rule as the text has it: the line on which it begins, its prefix, its pattern and its action
pub record RawRule : Type 0 where
  pub line : ℕ
  pub prefix : RulePrefix
  pub pattern : List ℕ
  pub action : List ℕ

-- the place of a line
pub data LineContext : Type 0 where
  -- by itself in the first section, or in a comment or a group there that began at a line
  definitions : LineContext
  comment : (since : ℕ) → LineContext
  group : (since : ℕ) → LineContext
  -- by itself in the second section, in a group there, or in the action of a rule, with the braces counted before it
  rules : LineContext
  rules_group : (since : ℕ) → LineContext
  action : (rule : RawRule) (count : Count) → LineContext

-- the entries of the sections, in order, each with its line
pub data Entry : Type 0 where
  conditions : (line : ℕ) (exclusive : Bool) (names : List (List ℕ)) → Entry
  definition : (line : ℕ) (name substitute : List ℕ) → Entry
  -- a rule, and true if its action was closed before the text ended
  rule : (raw : RawRule) (closed : Bool) → Entry
  formless : (line : ℕ) → Entry
  unclosed : (line : ℕ) → Entry
  endless : Entry

-- the rule with one more line of its action
abbrev pub longer : RawRule → List ℕ → RawRule
longer raw line = record raw { action = raw.action ++ 10 ∷ line }

-- the entries from line n on
abbrev pub entries : LineContext → ℕ → List (List ℕ) → List Entry
entries definitions n [] = endless ∷ []
entries (comment since) n [] = unclosed since ∷ []
entries (group since) n [] = unclosed since ∷ []
entries rules n [] = []
entries (rules_group since) n [] = unclosed since ∷ []
entries (action raw count) n [] = rule raw false ∷ []
entries definitions n (line ∷ rest) = elim (line_of line) [
  | skipped ↦ entries definitions (n + 1) rest
  | opens_comment ↦ entries (comment n) (n + 1) rest
  | opens_group ↦ entries (group n) (n + 1) rest
  | rules_begin ↦ entries rules (n + 1) rest
  | declares exclusive names ↦ conditions n exclusive names ∷ entries definitions (n + 1) rest
  | defines name substitute ↦ definition n name substitute ∷ entries definitions (n + 1) rest
  | no_form ↦ formless n ∷ entries definitions (n + 1) rest
]
entries (comment since) n (line ∷ rest) = if has_pair 42 47 line then entries definitions (n + 1) rest else entries (comment since) (n + 1) rest
entries (group since) n (line ∷ rest) = if begins_with 37 125 line then entries definitions (n + 1) rest else entries (group since) (n + 1) rest
entries rules n (line ∷ rest) = elim (rule_line_of line) [
  | rule_line.skipped ↦ entries rules (n + 1) rest
  | rule_line.opens_group ↦ entries (rules_group n) (n + 1) rest
  | rule_line.rules_end ↦ []
  | rule_line.begins_rule prefix pattern text ↦
      if is_closed (with_line start text) then rule (record { line = n; prefix = prefix; pattern = pattern; action = text }) true ∷ entries rules (n + 1) rest
      else entries (action (record { line = n; prefix = prefix; pattern = pattern; action = text }) (with_line start text)) (n + 1) rest
]
entries (rules_group since) n (line ∷ rest) = if begins_with 37 125 line then entries rules (n + 1) rest else entries (rules_group since) (n + 1) rest
entries (action raw count) n (line ∷ rest) =
    if is_closed (with_line count line) then rule (longer raw line) true ∷ entries rules (n + 1) rest
    else entries (action (longer raw line) (with_line count line)) (n + 1) rest

-- the entries after a part of a rule's action was read: the rule, if it is closed, and those from line n on
abbrev pub entries_behind : RawRule → Count → ℕ → List (List ℕ) → List Entry
entries_behind raw count n rest = if is_closed count then rule raw true ∷ entries rules n rest else entries (action raw count) n rest

-- a definition as the text has it
pub record RawDefinition : Type 0 where
  pub name : List ℕ
  pub substitute : List ℕ

-- the contents of the sections, in order
pub record ParsedSections : Type 0 where
  pub start_conditions : List StartCondition
  pub definitions : List RawDefinition
  pub rules : List RawRule

infixl 10 ◌>>=◌
abbrev pub ◌>>=◌ : {A B : Type 0} → Result A SpecFault → (A → Result B SpecFault) → Result B SpecFault
(Ok x) >>= f = f x
(Err e) >>= f = Err e

-- one more condition: its name is new, and there is room for it
abbrev pub with_start_condition : ParsedSections → ℕ → Bool → List ℕ → Result ParsedSections SpecFault
with_start_condition before n exclusive name =
    if list_any (λ s. pointwise nat_eq s.name name) before.start_conditions then Err (fault code.Twice n)
    else if nat_lt (length before.start_conditions) max_start_conditions then Ok (record before { start_conditions = before.start_conditions ++ record { name = name; exclusive = exclusive } ∷ [] })
    else Err (fault code.TooMany n)

abbrev pub with_start_conditions : ParsedSections → ℕ → Bool → List (List ℕ) → Result ParsedSections SpecFault
with_start_conditions before n exclusive [] = Ok before
with_start_conditions before n exclusive (name ∷ names) = with_start_condition before n exclusive name >>= λ d. with_start_conditions d n exclusive names

-- one more definition: its name is new, and there is room for it
abbrev pub with_definition : ParsedSections → ℕ → List ℕ → List ℕ → Result ParsedSections SpecFault
with_definition before n name substitute =
    if list_any (λ d. pointwise nat_eq d.name name) before.definitions then Err (fault code.Twice n)
    else if nat_lt (length before.definitions) max_definitions then Ok (record before { definitions = before.definitions ++ record { name = name; substitute = substitute } ∷ [] })
    else Err (fault code.TooMany n)

-- one more rule: there is room for it, and its action is closed
abbrev pub with_rule : ParsedSections → RawRule → Bool → Result ParsedSections SpecFault
with_rule before raw closed =
    if nat_lt (length before.rules) max_rules then (if closed then Ok (record before { rules = before.rules ++ raw ∷ [] }) else Err (fault code.NotClosed raw.line))
    else Err (fault code.TooMany raw.line)

-- one more entry
abbrev pub with_entry : ParsedSections → Entry → Result ParsedSections SpecFault
with_entry before (conditions n exclusive names) = with_start_conditions before n exclusive names
with_entry before (definition n name substitute) = with_definition before n name substitute
with_entry before (rule raw closed) = with_rule before raw closed
with_entry before (formless n) = Err (fault code.NoForm n)
with_entry before (unclosed n) = Err (fault code.NotClosed n)
with_entry before endless = Err (fault code.NoRules 0)

-- all entries, or the first fault
abbrev pub with_entries : ParsedSections → List Entry → Result ParsedSections SpecFault
with_entries before [] = Ok before
with_entries before (entry ∷ more) = with_entry before entry >>= λ d. with_entries d more

-- INITIAL is declared, and nothing else
abbrev pub only_initial : ParsedSections
only_initial = record { start_conditions = record { name = 73 ∷ 78 ∷ 73 ∷ 84 ∷ 73 ∷ 65 ∷ 76 ∷ []; exclusive = false } ∷ []; definitions = []; rules = [] }

-- the contents of the lines from number n on, after those before
abbrev pub sections_behind : ParsedSections → LineContext → ℕ → List (List ℕ) → Result ParsedSections SpecFault
sections_behind before place n rest = with_entries before (entries place n rest)

-- the contents of a text's sections, or their first fault in the order of the text
abbrev pub sections_of : List ℕ → Result ParsedSections SpecFault
sections_of text = sections_behind only_initial definitions 1 (lines text)

-- A function's result, seen by view, is that of reading, unless memory ran out.
abbrev pub Gives : {X Y : Type 0} → (X → Y) → Result X SpecFault → Result Y SpecFault → Type 0
Gives view (Ok x) read = read ≡ Ok (view x)
Gives view (Err f) read = f ≢ out_of_memory → read ≡ Err f

-- the contents after a line was taken: no place follows the line that ends the rules
abbrev pub continued : Option LineContext → ParsedSections → ℕ → List (List ℕ) → Result ParsedSections SpecFault
continued None before n rest = Ok before
continued (Some place) before n rest = sections_behind before place n rest

-- The result of taking a line, seen by view, continues to that of reading, unless memory ran out.
abbrev pub Goes : {X : Type 0} → (X → ParsedSections × Option LineContext) → ℕ → List (List ℕ) → Result X SpecFault → Result ParsedSections SpecFault → Type 0
Goes view n rest (Ok x) read = read ≡ continued (view x).1 (view x).0 (n + 1) rest
Goes view n rest (Err f) read = f ≢ out_of_memory → read ≡ Err f

-- Taking line n at a place gave the result of reading from there, for any lines that follow.
abbrev pub TakesLine : {X : Type 0} → (X → ParsedSections × Option LineContext) → ParsedSections → LineContext → ℕ → List ℕ → Result X SpecFault → Type 0
TakesLine view before place n line result = (rest : List (List ℕ)) → Goes view n rest result (sections_behind before place n (line ∷ rest))
