use Rattle.std.proofs.Common.{◌≡◌, take}
use Rattle.lx_auto.specs.LeafViews.{leaves_view}
use Rattle.lx_auto.specs.Exploring.{positions_with_byte}
use Rattle.lx_auto.proofs.explore.positions_with_byte.Given as goal

abbrev pub invariant-loop-position : goal.invariant-loop-position
invariant-loop-position l = l.set.items ≡ positions_with_byte (leaves_view l.leaves) l.byte (take l.position-index l.from)
