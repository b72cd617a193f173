use Rattle.std.proofs.Common.{◌≡◌}
use Rattle.lx_auto.specs.CountViews.{counts_at}
use Rattle.lx_auto.proofs.unfolding.count.count_definitions.Given as goal

abbrev pub invariant-loop-round : goal.invariant-loop-round
invariant-loop-round l = l.counts.items ≡ counts_at l.names.definitions.now l._round
