use Rattle.std.proofs.Common.{◌≡◌, min, map, take}
use Rattle.lx_ere.specs.Regex.{regex_of}
use Rattle.lx_auto.specs.Counts.{count_in}
use Rattle.lx_auto.specs.CountViews.{looked_up}
use Rattle.lx_auto.proofs.unfolding.count.next_counts.Given as goal

abbrev pub invariant-loop-definition : goal.invariant-loop-definition
invariant-loop-definition l = l.next.items ≡ map (λ d. min 16385 (count_in (looked_up l.names.definitions.now l.counts) (regex_of d.expr))) (take l.definition-index l.definition-items)
