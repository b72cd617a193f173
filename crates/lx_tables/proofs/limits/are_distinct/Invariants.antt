use Rattle.std.proofs.Common.{◌≡◌, ◌≤◌, ℕ, List, true, drop, length}
use Rattle.std.specs.Option.{is_some}
use Rattle.lx_rules.specs.Invariant.{are_distinct}
use Rattle.lx_rules.specs.views.NameTables.{number_at}
use Rattle.lx_rules.specs.views.Rules.{names_view}
use Rattle.lx_tables.proofs.Distinct.{is_among}
use Rattle.lx_tables.proofs.limits.are_distinct.Given as goal

abbrev pub invariant-loop-at : goal.invariant-loop-at
invariant-loop-at l = record {
  within : l.at ≤ length l.names;
  seen : (q : List ℕ) → is_some (number_at l.seen q) ≡ is_among (drop l.at (names_view l.names)) q;
  distinct : are_distinct (drop l.at (names_view l.names)) ≡ true;
}

abbrev pub decreases-loop-at : goal.decreases-loop-at
decreases-loop-at l = l.at
