-- The part of a match that is the token, and its trailing context.
use Rattle.std.specs.Prelude.{◌≡◌, ◌+◌, ℕ, Bool, true, false, List, [], ◌∷◌, length, Option, Some, None, MatchOption}
use Rattle.lx_ere.specs.Regex.{Regex, nil, one_of, then, or, times, named}
use Rattle.lx_flex.specs.Lengths.{HasLength, SaysEmpty, length_of, matches_empty}
use Rattle.lx_flex_pattern.specs.Reading.{FlexReading}
use Rattle.lx_lex.specs.Translation.{FileRule, newline}
use Rattle.lx_lex.specs.declared.outline.MatchCut.{MatchCut}
use Rattle.lx_lex.specs.declared.outline.MatchCut.TheVariants.{Before, First, Varying, Whole}
use Rattle.lx_rules.specs.Plain.{PlainRule, PlainSpec}

-- the trailing context of a reading: that after a `/`, or the newline of a `$`
abbrev pub context_or_newline : Option Regex → Bool → Option Regex
context_or_newline (Some context) line_end = Some context
context_or_newline None true = Some newline
context_or_newline None false = None

abbrev pub context_of : FlexReading → Option Regex
context_of r = context_or_newline r.trailing r.line_end

-- The cut leaves the token: all of the match if there is no context; else all but its end of the length of all texts of the context, or its start of the length of
-- all texts of the token. Where both vary, the flags say whether the token, and the context, can be empty.
abbrev pub IsCut : Regex → Option Regex → MatchCut → Type 0
IsCut token context Whole = context ≡ None
IsCut token context (Before n) = MatchOption context ⊥ (λ c. HasLength c n)
IsCut token context (First n) = HasLength token n
IsCut token context (Varying t c) = MatchOption context ⊥ (λ other. SaysEmpty token t × SaysEmpty other c)

-- ---- the cut that is found

abbrev pub varying_unless_fixed : Option ℕ → Regex → Regex → MatchCut
varying_unless_fixed (Some n) token context = First n
varying_unless_fixed None token context = Varying (matches_empty token) (matches_empty context)

abbrev pub cut_by_length : Option ℕ → Regex → Regex → MatchCut
cut_by_length (Some n) token context = Before n
cut_by_length None token context = varying_unless_fixed (length_of token) token context

-- the length of the context decides, then that of the token
abbrev pub cut_of : Regex → Option Regex → MatchCut
cut_of token None = Whole
cut_of token (Some context) = cut_by_length (length_of context) token context

abbrev pub is_varying : MatchCut → Bool
is_varying Whole = false
is_varying (Before n) = false
is_varying (First n) = false
is_varying (Varying t c) = true

-- ---- the specification that finds where a token ends

-- the expression of the texts of another one, each from its last byte to its first
abbrev pub reversed : Regex → Regex
reversed nil = nil
reversed (one_of s) = one_of s
reversed (then a b) = then (reversed b) (reversed a)
reversed (or a b) = or (reversed a) (reversed b)
reversed (times body low high) = times (reversed body) low high
reversed (named name) = named name

-- an expression that is matched alone, and the line of its rule
pub record Part : Type 0 where
  pub line : ℕ
  pub tree : Regex

-- the token, and its context from its last byte to its first
abbrev pub with_parts : Bool → ℕ → Regex → Regex → List Part → List Part
with_parts false line token context parts = parts
with_parts true line token context parts = record { line = line; tree = token } ∷ record { line = line; tree = reversed context } ∷ parts

abbrev pub parts_before : ℕ → Regex → Option Regex → List Part → List Part
parts_before line token None parts = parts
parts_before line token (Some context) parts = with_parts (is_varying (cut_of token (Some context))) line token context parts

abbrev pub rule_parts : ℕ → Option FlexReading → List Part → List Part
rule_parts line None parts = parts
rule_parts line (Some r) parts = parts_before line r.tree r.trailing parts

-- the parts of the rules whose tokens and contexts vary, in the order of the file
abbrev pub parts_of : List FileRule → List Part
parts_of [] = []
parts_of (rule ∷ rules) = rule_parts rule.line rule.reading (parts_of rules)

-- the rule of a part, in the condition with this number alone
abbrev pub part_rule : ℕ → Part → PlainRule
part_rule n p = record { line = p.line; conditions = Some (n ∷ []); reading = record { line_begin = false; line_end = false; tree = p.tree }; steps = [] }

abbrev pub part_rules : ℕ → List Part → List PlainRule
part_rules n [] = []
part_rules n (p ∷ ps) = part_rule n p ∷ part_rules (n + 1) ps

-- The specification has one rule for each part, and for each rule a condition of its own, from 1 on.
pub record IsCutSpec (rules : List FileRule) (spec : PlainSpec) : Type 0 where
  pub conditions : length spec.conditions ≡ length (parts_of rules) + 1
  pub no_definitions : spec.definitions ≡ []
  pub rules_are : spec.rules ≡ part_rules 1 (parts_of rules)
