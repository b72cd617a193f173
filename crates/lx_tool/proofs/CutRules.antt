-- A specification for the ends of tokens has no rules only if there are no parts.
use Rattle.std.proofs.Common.{◌≡◌, ℕ, List, [], ◌∷◌, length, refl, sym, ◌∙◌, ap, arith}
use Rattle.lx_lex.specs.Cuts.{IsCutSpec, Part, part_rules, parts_of}
use Rattle.lx_lex.specs.Translation.{FileRule}
use Rattle.lx_rules.specs.Plain.{PlainRule, PlainSpec}

empty-parts : (ps : List Part) → length (part_rules 1 ps) ≡ 0 → ps ≡ []
empty-parts [] h = refl
empty-parts (p ∷ ps) h = absurd (omega (arith, h))

pub no-parts : (rules : List FileRule) (spec : PlainSpec) → IsCutSpec rules spec → length spec.rules ≡ 0 → parts_of rules ≡ []
no-parts rules spec of none = empty-parts (parts_of rules) (sym (ap (λ (rs : List PlainRule). length rs) of.rules_are) ∙ none)
