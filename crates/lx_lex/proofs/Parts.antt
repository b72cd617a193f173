-- The rules of parts, one file rule after the other.
use Rattle.std.proofs.Common.{ℕ, ◌≡◌, ◌+◌, Bool, true, false, List, [], ◌∷◌, ◌++◌, Option, Some, None, length, refl, ◌∙◌, ap, arith}
use Rattle.lx_ere.specs.Regex.{Regex}
use Rattle.lx_flex_pattern.specs.Reading.{FlexReading}
use Rattle.lx_lex.specs.Cuts.{Part, cut_of, is_varying, part_rule, part_rules, parts_before, parts_of, rule_parts, with_parts}
use Rattle.lx_lex.specs.Translation.{FileRule}

with-more : (flag : Bool) (line : ℕ) (token context : Regex) (ps : List Part) → with_parts flag line token context ps ≡ with_parts flag line token context [] ++ ps
with-more true line token context ps = refl
with-more false line token context ps = refl

before-more : (line : ℕ) (token : Regex) (context : Option Regex) (ps : List Part) → parts_before line token context ps ≡ parts_before line token context [] ++ ps
before-more line token None ps = refl
before-more line token (Some context) ps = with-more (is_varying (cut_of token (Some context))) line token context ps

rule-more : (line : ℕ) (reading : Option FlexReading) (ps : List Part) → rule_parts line reading ps ≡ rule_parts line reading [] ++ ps
rule-more line None ps = refl
rule-more line (Some r) ps = before-more line r.tree r.trailing ps

-- the parts of a rule, and those of the rules after it
pub parts-more : (rule : FileRule) (rules : List FileRule) → parts_of (rule ∷ rules) ≡ parts_of (rule ∷ []) ++ parts_of rules
parts-more rule rules = rule-more rule.line rule.reading (parts_of rules)

pub rules-more : (n : ℕ) (ps qs : List Part) → part_rules n (ps ++ qs) ≡ part_rules n ps ++ part_rules (n + length ps) qs
rules-more n [] qs = let same : n ≡ n + 0 = omega arith in ap (λ (k : ℕ). part_rules k qs) same
rules-more n (p ∷ ps) qs =
    let same : (n + 1) + length ps ≡ n + length (p ∷ ps) = omega arith in
    ap (λ rs. part_rule n p ∷ rs) (rules-more (n + 1) ps qs ∙ ap (λ (k : ℕ). part_rules (n + 1) ps ++ part_rules k qs) same)
