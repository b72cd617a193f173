-- The entries of a rule: those of its first line, and of a further one.
use Rattle.std.proofs.Common.{◌≡◌, ℕ, ◌+◌, ◌∙◌, true, cond, List, [], ◌∷◌, Option, Result, subst, ap}
use Rattle.lx_spec.specs.Blocks.{start, with_line, is_closed}
use Rattle.lx_spec.specs.RuleLines as rule_line
use Rattle.lx_spec.specs.RuleLines.{RulePrefix, RuleLine, rule_line_of}
use Rattle.lx_spec.specs.Sections.{RawRule, ParsedSections, LineContext, rules, rules_group, action, rule, entries, entries_behind, sections_behind, with_entries, Goes}
use Rattle.lx_spec.specs.declared.block.Count.{Count}
use Rattle.lx_spec.specs.declared.fault.SpecFault.{SpecFault}

pub rule_begun : (before : ParsedSections) (n : ℕ) (line : List ℕ) (prefix : RulePrefix) (pattern text : List ℕ) (rest : List (List ℕ)) → rule_line.begins_rule prefix pattern text ≡ rule_line_of line
    → with_entries before (entries_behind (record { line = n; prefix = prefix; pattern = pattern; action = text }) (with_line start text) (n + 1) rest) ≡ sections_behind before rules n (line ∷ rest)
rule_begun before n line prefix pattern text rest e = ap (λ (r : RuleLine). with_entries before (elim r [
  | rule_line.skipped ↦ entries rules (n + 1) rest
  | rule_line.opens_group ↦ entries (rules_group n) (n + 1) rest
  | rule_line.rules_end ↦ []
  | rule_line.begins_rule prefix' pattern' text' ↦
      cond (is_closed (with_line start text')) (rule (record { line = n; prefix = prefix'; pattern = pattern'; action = text' }) true ∷ entries rules (n + 1) rest)
      (entries (action (record { line = n; prefix = prefix'; pattern = pattern'; action = text' }) (with_line start text')) (n + 1) rest)
])) e

pub Goes-same : {X : Type 0} (view : X → ParsedSections × Option LineContext) (n : ℕ) (rest : List (List ℕ)) (r : Result X SpecFault) (a b : Result ParsedSections SpecFault) → b ≡ a → Goes view n rest r b → Goes view n rest r a
Goes-same view n rest r a b e = subst (λ x. Goes view n rest r x) e

pub behind-same : (before : ParsedSections) (raw raw' : RawRule) (count count' : Count) (n : ℕ) (rest : List (List ℕ)) → raw ≡ raw' → count ≡ count'
    → with_entries before (entries_behind raw count n rest) ≡ with_entries before (entries_behind raw' count' n rest)
behind-same before raw raw' count count' n rest e f =
    ap (λ (r : RawRule). with_entries before (entries_behind r count n rest)) e ∙ ap (λ (k : Count). with_entries before (entries_behind raw' k n rest)) f
