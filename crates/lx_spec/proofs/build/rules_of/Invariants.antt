use Rattle.std.proofs.Common.{◌≡◌, ◌≤◌, map, drop, take, vec_len}
use Rattle.std.specs.Prelude.{reverse}
use Rattle.lx_rules.specs.views.Rules.{rule_view, names_view}
use Rattle.lx_spec.specs.views.Steps.{steps_at_end}
use Rattle.lx_spec.specs.views.ResolvedRules.{resolved_view}
use Rattle.lx_spec.specs.views.Sections.{start_condition_view, raw_rule_view}
use Rattle.lx_spec.specs.Outcome as plain
use Rattle.lx_spec.proofs.build.rules_of.Given as goal

abbrev pub invariant-loop-rule : goal.invariant-loop-rule
invariant-loop-rule l = record {
  rest : l.resolved.items ≡ take (vec_len l.resolved) l.fn.resolved.items;
  within : vec_len l.resolved ≤ vec_len l.fn.resolved;
  steps : steps_at_end (map rule_view l.rules.items) ≡ plain.steps_of (map start_condition_view l.start_conditions) (names_view l.kinds.kinds.items) (plain.first_own (plain.actions_in (map resolved_view (drop (vec_len l.resolved) l.fn.resolved.items))));
  rules : map rule_view (reverse l.rules.items) ≡ plain.rules_of (map start_condition_view l.start_conditions) (names_view l.kinds.kinds.items) (map raw_rule_view (drop (vec_len l.resolved) l.raws)) (map resolved_view (drop (vec_len l.resolved) l.fn.resolved.items));
}

abbrev pub decreases-loop-rule : goal.decreases-loop-rule
decreases-loop-rule l = vec_len l.resolved
