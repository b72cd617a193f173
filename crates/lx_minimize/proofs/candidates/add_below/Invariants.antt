use Rattle.std.proofs.Common.{take}
use Rattle.lx_minimize.specs.Sources.{AddsBelow}
use Rattle.lx_minimize.proofs.candidates.add_below.Given as goal

abbrev pub invariant-loop-i : goal.invariant-loop-i
invariant-loop-i l = AddsBelow (take l.i l.states) l.count l.fn.all.items l.all.items
