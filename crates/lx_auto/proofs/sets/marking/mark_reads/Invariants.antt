use Rattle.std.proofs.Common.{◌≡◌, ◌≤◌, ◌∷◌, [], take, length}
use Rattle.std.specs.Prelude.{reverse}
use Rattle.lx_auto.specs.Marking.{reads_from}
use Rattle.lx_auto.specs.NodeViews.{nodes_view}
use Rattle.lx_auto.proofs.sets.marking.mark_reads.Given as goal

abbrev pub invariant-down : goal.invariant-down
invariant-down l = record {
  so_far : reads_from l.nulls l.ends (reverse (nodes_view (take l.rest l.nodes))) (reverse l.stack.items) l.position l.reads.items
      ≡ reads_from l.nulls l.ends (reverse (nodes_view l.nodes)) (l.entered ∷ []) l.end l.fn.reads.items;
  long : length l.reads.items ≡ length l.fn.reads.items;
  within : l.rest ≤ length l.nodes;
}

abbrev pub decreases-down : goal.decreases-down
decreases-down l = l.rest
