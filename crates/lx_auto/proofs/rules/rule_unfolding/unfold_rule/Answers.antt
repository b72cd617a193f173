use Rattle.std.proofs.Common.{[], map, subst}
use Rattle.lx_ere.specs.Regex.{regex_of}
use Rattle.lx_rules.specs.views.Rules.{definition_view}
use Rattle.lx_auto.specs.NodeViews.{nodes_view}
use Rattle.lx_auto.specs.Unfolding.{Unfolds}
use Rattle.lx_auto.proofs.NestedRules.{unfolds-pattern}
use Rattle.lx_auto.proofs.rules.rule_unfolding.unfold_rule.Goals as goal

pub returns : goal.returns
returns c =
    let definitions = map definition_view c.args.names.now.definitions.now in
    let tree = regex_of c.args.rule.now.pattern.expr in
    let new = nodes_view c.unfold.new.nodes.items in
    let part = c.in_ok-unfold.field-0 in
    (unfolds-pattern definitions tree [] new part c.requires.nested
    (subst (λ l. Unfolds definitions 32 tree (nodes_view l) new part) c.new-nodes.ensures.items c.in_ok-unfold.ensures)).nodes
