use Rattle.lx_minimize.specs.Partitions.{AreRenumbered}
use Rattle.lx_minimize.proofs.moving.renumber.Given as goal

abbrev pub invariant-loop-i : goal.invariant-loop-i
invariant-loop-i l = AreRenumbered l.fn.blocks l.blocks l.moved_states l.fresh l.i
