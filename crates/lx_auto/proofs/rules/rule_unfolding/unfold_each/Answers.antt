use Rattle.std.proofs.Common.{◌≡◌, ◌∙◌, ◌+◌, ◌++◌, ◌∷◌, [], ℕ, List, map, take, ap, subst, sym, arith}
use Rattle.std.proofs.lemmas.List.{map_more}
use Rattle.lx_rules.specs.Plain.{PlainDefinition, PlainRule}
use Rattle.lx_rules.specs.declared.rule.Rule.{Rule}
use Rattle.lx_rules.specs.views.Rules.{definition_view, rule_view}
use Rattle.lx_auto.specs.Counts.{count_of_rules}
use Rattle.lx_auto.specs.Nodes.{nodes_of}
use Rattle.lx_auto.specs.NodeViews.{nodes_view}
use Rattle.lx_auto.specs.PositionSets.{numbered}
use Rattle.lx_auto.specs.RuleParts.{ArePartsOf, IsPartOver}
use Rattle.lx_auto.specs.Simplified.{simplified_pattern}
use Rattle.lx_auto.proofs.NestedRules.{rule-nested}
use Rattle.lx_auto.proofs.NoEmptyParts.{is_simplified_pattern}
use Rattle.lx_auto.proofs.RulePartLists.{front_below, leaf_count, part_end, parts_push, count_push}
use Rattle.lx_auto.proofs.rules.rule_unfolding.unfold_each.Goals as goal

pub unfold_rule-requires-clause-nested : goal.unfold_rule-requires-clause-nested
unfold_rule-requires-clause-nested c =
    rule-nested (map definition_view c.args.names.now.definitions.now) c.args.rules.now c.loop-i.i c.index-rules-i.result c.requires.nested c.loop-i-test.true c.index-rules-i.is

pub part_of-requires-clause-small : goal.part_of-requires-clause-small
part_of-requires-clause-small c =
    let plain = map definition_view c.args.names.now.definitions.now in
    let all = front_below plain c.args.rules.now c.loop-i.i in
    let few = c.requires.few in
    let total = c.loop-i.invariant.total in
    omega arith

pub part_of-requires-clause-few : goal.part_of-requires-clause-few
part_of-requires-clause-few c =
    let plain = map definition_view c.args.names.now.definitions.now in
    let rules : List Rule = c.args.rules.now in
    let i = c.loop-i.i in
    let here : Rule = c.index-rules-i.result in
    let done : List PlainRule = map rule_view (take i rules) in
    let more : map rule_view (take (i + 1) rules) ≡ done ++ rule_view here ∷ []
    = map_more rule_view rules i here c.loop-i-test.true ∙ ap (λ (r : Rule). done ++ rule_view r ∷ []) (sym c.index-rules-i.is) in
    let all = front_below plain rules (i + 1) in
    let sum = ap (count_of_rules plain) more ∙ count_push plain done (rule_view here) in
    let few = c.requires.few in
    let leaves = leaf_count plain (rule_view here) (nodes_view c.in_ok-nodes.nodes.items) c.in_ok-nodes.ensures in
    omega arith

pub part_of-requires-clause-whole : goal.part_of-requires-clause-whole
part_of-requires-clause-whole c =
    let plain = map definition_view c.args.names.now.definitions.now in
    let tree = (rule_view c.index-rules-i.result).reading.tree in
    record { tree = simplified_pattern plain tree; of = c.in_ok-nodes.ensures; simplified = is_simplified_pattern plain tree }

pub loop-i-preserved : goal.loop-i-preserved
loop-i-preserved c =
    let plain : List PlainDefinition = map definition_view c.args.names.now.definitions.now in
    let rules : List Rule = c.args.rules.now in
    let i : ℕ = c.loop-i.i in
    let here : Rule = c.index-rules-i.result in
    let done : List PlainRule = map rule_view (take i rules) in
    let more : map rule_view (take (i + 1) rules) ≡ done ++ rule_view here ∷ []
    = map_more rule_view rules i here c.loop-i-test.true ∙ ap (λ (r : Rule). done ++ rule_view r ∷ []) (sym c.index-rules-i.is) in
    let part = c.in_ok-part.part in
    let total = c.loop-i.invariant.total in
    let over : IsPartOver part (nodes_of (simplified_pattern plain (rule_view here).reading.tree)) (count_of_rules plain done) (rule_view here).reading.line_end =
    subst (λ b. IsPartOver part (nodes_of (simplified_pattern plain (rule_view here).reading.tree)) b (rule_view here).reading.line_end) total
    (subst (λ n. IsPartOver part n c.loop-i.total (rule_view here).reading.line_end) c.in_ok-nodes.ensures c.in_ok-part.ensures) in
    let before = subst (λ n. ArePartsOf c.loop-i.parts.items (numbered (simplified_pattern plain) 0 done) n) total c.loop-i.invariant.parts in
    let pushed = parts_push plain c.loop-i.parts.items part done (rule_view here) before over in
    let end = part_end plain part (rule_view here) (count_of_rules plain done) over in
    let next = c.end_of-total.ensures ∙ end ∙ sym (count_push plain done (rule_view here)) in
    record {
      parts =
          subst (λ l. ArePartsOf l (numbered (simplified_pattern plain) 0 (map rule_view (take (i + 1) rules))) c.end_of-total.result) (sym c.in_ok-push.ensures.items)
          (subst (λ rs. ArePartsOf (c.loop-i.parts.items ++ part ∷ []) (numbered (simplified_pattern plain) 0 rs) c.end_of-total.result) (sym more)
          (subst (λ n. ArePartsOf (c.loop-i.parts.items ++ part ∷ []) (numbered (simplified_pattern plain) 0 (done ++ rule_view here ∷ [])) n) (sym next) pushed));
      total = next ∙ ap (count_of_rules plain) (sym more);
    }
