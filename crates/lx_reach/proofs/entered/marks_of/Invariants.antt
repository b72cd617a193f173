use Rattle.std.proofs.Common.{◌≡◌, take}
use Rattle.lx_reach.proofs.Entering.{marks}
use Rattle.lx_reach.proofs.entered.marks_of.Given as goal

abbrev pub invariant-loop-place : goal.invariant-loop-place
invariant-loop-place l = l.flags.items ≡ marks (take l.place-index l.places)
