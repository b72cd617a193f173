-- The nodes of one rule more.
use Rattle.std.proofs.Common.{◌≡◌, ℕ, zero, suc, ◌<◌, IsTrue, Bool, true, false, ◌&&◌, List, [], ◌∷◌, length, get_or, map, refl, sym, subst, arith}
use Rattle.std.specs.List.{list_all}
use Rattle.lx_ere.specs.Regex.{Regex, regex_of}
use Rattle.lx_rules.specs.views.Rules.{rule_view}
use Rattle.lx_rules.specs.declared.rule.Rule.{Rule}
use Rattle.lx_rules.specs.Nesting.{is_within, are_nested, expressions_of}
use Rattle.lx_rules.specs.Plain.{PlainDefinition}
use Rattle.lx_auto.specs.Nodes.{PlainNode}
use Rattle.lx_auto.specs.NodeViews.{Appends}
use Rattle.lx_auto.specs.Simplified.{simplified_pattern}
use Rattle.lx_auto.specs.Unfolding.{Unfolds}
use Rattle.lx_auto.specs.declared.unfolding.part.Part.{Part}
use Rattle.lx_auto.proofs.Appending.{and-left, and-right}

-- the nodes of a pattern whose names are nested
pub unfolds-pattern : (definitions : List PlainDefinition) (tree : Regex) (old new : List PlainNode) (p : Part) → IsTrue (are_nested definitions (tree ∷ [])) → Unfolds definitions 32 tree old new p
    → Appends (simplified_pattern definitions tree) old new p
unfolding are_nested simplified_pattern
unfolds-pattern definitions tree old new p w h = h.at 32 (omega arith) (and-left (is_within 32 definitions tree) true w)

both-true : (b : Bool) → IsTrue b → IsTrue (b && true)
both-true true h = refl
both-true false h = h

-- each rule's expression is nested if those of all are
pub rule-nested : (definitions : List PlainDefinition) (rules : List Rule) (i : ℕ) (r : Rule) → IsTrue (are_nested definitions (expressions_of (map rule_view rules))) → i < length rules → r ≡ get_or rules i r
    → IsTrue (are_nested definitions (regex_of r.pattern.expr ∷ []))
unfolding are_nested
rule-nested definitions [] i r h less e = absurd (omega arith)
rule-nested definitions (x ∷ xs) zero r h less e =
    let first : IsTrue (is_within 32 definitions (regex_of x.pattern.expr)) = and-left (is_within 32 definitions (regex_of x.pattern.expr)) (list_all (is_within 32 definitions) (expressions_of (map rule_view xs))) h in
    both-true (is_within 32 definitions (regex_of r.pattern.expr)) (subst (λ (y : Rule). IsTrue (is_within 32 definitions (regex_of y.pattern.expr))) (sym e) first)
rule-nested definitions (x ∷ xs) (suc i) r h less e =
    rule-nested definitions xs i r (and-right (is_within 32 definitions (regex_of x.pattern.expr)) (list_all (is_within 32 definitions) (expressions_of (map rule_view xs))) h) (omega arith) e
