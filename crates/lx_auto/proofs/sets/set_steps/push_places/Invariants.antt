use Rattle.std.proofs.Common.{◌≡◌, ◌++◌, drop}
use Rattle.lx_auto.specs.Members.{places_from}
use Rattle.lx_auto.proofs.sets.set_steps.push_places.Given as goal

abbrev pub invariant-loop-i : goal.invariant-loop-i
invariant-loop-i l = l.places.items ++ places_from l.i (drop l.i l.flags) ≡ l.fn.places.items ++ places_from l.from (drop l.from l.flags)
