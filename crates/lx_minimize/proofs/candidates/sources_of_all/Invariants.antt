use Rattle.std.proofs.Common.{take}
use Rattle.lx_minimize.specs.Sources.{AreSourcesOf}
use Rattle.lx_minimize.proofs.candidates.sources_of_all.Given as goal

abbrev pub invariant-loop-i : goal.invariant-loop-i
invariant-loop-i l = AreSourcesOf l.m (take l.i l.members) l.class l.states.items
