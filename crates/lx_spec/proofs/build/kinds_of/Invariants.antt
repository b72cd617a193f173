use Rattle.std.proofs.Common.{◌≡◌, ◌≤◌, map, drop, vec_len}
use Rattle.lx_rules.specs.views.Rules.{names_view}
use Rattle.lx_spec.specs.views.ResolvedRules.{resolved_view}
use Rattle.lx_spec.specs.Outcome as plain
use Rattle.lx_spec.proofs.build.kinds_of.Given as goal

abbrev pub invariant-loop-i : goal.invariant-loop-i
invariant-loop-i l = record {
  kinds : plain.kinds_behind (names_view l.kinds.kinds.items) (plain.statements_in (map resolved_view (drop l.i l.resolved))) ≡ plain.kinds_of (map resolved_view l.resolved);
  few : vec_len l.kinds.kinds ≤ l.i;
}
