-- The specification of a scanner: its rules are those of a file for lex or flex, one for one.
use Rattle.std.specs.Prelude.{ℕ, Bool, true, false, List, [], ◌∷◌, ◌≡◌, Option, Some, None}
use Rattle.lx_ere.specs.Bytes as bytes
use Rattle.lx_ere.specs.Regex.{Regex, one_of, then}
use Rattle.lx_flex_pattern.specs.Reading.{FlexReading}
use Rattle.lx_rules.specs.Plain.{PlainRule, PlainSpec, StartCondition}

-- a rule of the file: its line, the numbers of its conditions, and the reading of its pattern; none for `<<EOF>>`
pub record FileRule : Type 0 where
  pub line : ℕ
  pub conditions : Option (List ℕ)
  pub reading : Option FlexReading

-- the newline that `$` wants after a match
abbrev pub newline : Regex
newline = one_of (bytes.byte_set 10)

abbrev pub with_context : Regex → Bool → Option Regex → Regex
with_context tree line_end (Some context) = then tree context
with_context tree true None = then tree newline
with_context tree false None = tree

-- the text that has to be there for a match: that of the pattern, and of its trailing context
abbrev pub reach_of : FlexReading → Regex
reach_of r = with_context r.tree r.line_end r.trailing

-- The rule of the specification. It has no steps, since the C text of the action is printed.
abbrev pub plain_rule : FileRule → FlexReading → PlainRule
plain_rule rule r = record { line = rule.line; conditions = rule.conditions; reading = record { line_begin = r.line_begin; line_end = false; tree = reach_of r }; steps = [] }

abbrev pub before_rules : FileRule → Option FlexReading → List PlainRule → List PlainRule
before_rules rule None rules = rules
before_rules rule (Some r) rules = plain_rule rule r ∷ rules

-- the rules of the specification: those of the file without the rules for `<<EOF>>`
abbrev pub rules_of : List FileRule → List PlainRule
rules_of [] = []
rules_of (rule ∷ rules) = before_rules rule rule.reading (rules_of rules)

-- The specification has these conditions and rules, and no definitions and kinds.
pub record IsPlainSpec (conditions : List StartCondition) (rules : List PlainRule) (spec : PlainSpec) : Type 0 where
  pub same_conditions : spec.conditions ≡ conditions
  pub no_definitions : spec.definitions ≡ []
  pub no_kinds : spec.kinds ≡ []
  pub same_rules : spec.rules ≡ rules

-- It has these conditions, and the rules of the file.
abbrev pub IsScannerSpec : List StartCondition → List FileRule → PlainSpec → Type 0
IsScannerSpec conditions rules spec = IsPlainSpec conditions (rules_of rules) spec
