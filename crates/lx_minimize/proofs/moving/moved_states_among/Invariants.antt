use Rattle.std.proofs.Common.{take}
use Rattle.lx_minimize.specs.Sources.{AreMovedStatesAmong}
use Rattle.lx_minimize.proofs.moving.moved_states_among.Given as goal

abbrev pub invariant-loop-i : goal.invariant-loop-i
invariant-loop-i l = AreMovedStatesAmong l.m l.blocks l.inside l.from l.class l.wanted (take l.i l.states) l.moved_states.items
