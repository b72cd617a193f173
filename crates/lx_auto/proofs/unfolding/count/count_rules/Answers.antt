use Rattle.std.proofs.Common.{◌≡◌, ◌∙◌, ◌+◌, ℕ, List, map, take, min, get_or, ap, sym, arith}
use Rattle.std.proofs.lemmas.List.{map_more}
use Rattle.lx_ere.specs.Regex.{regex_of}
use Rattle.lx_rules.specs.Plain.{PlainDefinition}
use Rattle.lx_rules.specs.views.Rules.{definition_view, rule_view}
use Rattle.lx_rules.specs.declared.rule.Rule.{Rule}
use Rattle.lx_auto.specs.Counts.{count_in, count_of_pattern, count_of_rules, newline_count}
use Rattle.lx_auto.specs.CountViews.{looked_up}
use Rattle.lx_auto.proofs.Counting.{count-pattern, count-more}
use Rattle.lx_auto.proofs.unfolding.count.count_rules.Goals as goal

pub loop-rule-preserved : goal.loop-rule-preserved
loop-rule-preserved c =
    let definitions : List PlainDefinition = map definition_view c.args.names.now.definitions.now in
    let rules : List Rule = c.args.rules.now in
    let i : ℕ = c.loop-rule.rule-index in
    let here : Rule = c.rule-item.result in
    let expr : min 16385 (count_in (looked_up c.args.names.now.definitions.now c.args.counts.now) (regex_of here.pattern.expr)) ≡ min 16385 (count_of_pattern definitions (regex_of here.pattern.expr))
    = count-pattern c.args.names.now.definitions.now c.args.counts.now (regex_of here.pattern.expr) c.requires in
    let more : count_of_rules definitions (map rule_view (take (i + 1) rules)) ≡ count_of_rules definitions (map rule_view (take i rules)) + (count_of_pattern definitions (regex_of here.pattern.expr) + newline_count here.pattern.line_end)
    = ap (count_of_rules definitions) (map_more rule_view rules i here c.loop-rule-test.true)
    ∙ count-more definitions (map rule_view (take i rules)) (rule_view (get_or rules i here))
    ∙ ap (λ (r : Rule). count_of_rules definitions (map rule_view (take i rules)) + (count_of_pattern definitions (regex_of r.pattern.expr) + newline_count r.pattern.line_end)) (sym c.rule-item.is) in
    let own : c.sum-own.result ≡ min 16385 (min 16385 (count_of_pattern definitions (regex_of here.pattern.expr)) + newline_count here.pattern.line_end) = omega arith in
    omega arith
