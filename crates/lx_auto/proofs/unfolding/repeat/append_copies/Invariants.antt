use Rattle.std.proofs.Common.{◌≡◌, ◌++◌, drop, length}
use Rattle.lx_auto.specs.Copies.{copies}
use Rattle.lx_auto.proofs.unfolding.repeat.append_copies.Given as goal

abbrev pub invariant-loop-copy : goal.invariant-loop-copy
invariant-loop-copy l = record {
  copied : l.nodes.items ≡ l.initial.nodes.items ++ copies l._copy (drop l.start l.initial.nodes.items);
  long : l.end ≡ length l.initial.nodes.items;
}
