use Rattle.std.proofs.Common.{◌≡◌, length}
use Rattle.lx_c.specs.Kinds as kinds
use Rattle.lx_c.proofs.judging.has_part.Given as goal

abbrev pub invariant-loop-more : goal.invariant-loop-more
invariant-loop-more l = kinds.has_part l.part l.rest ≡ kinds.has_part l.part l.text

abbrev pub decreases-loop-more : goal.decreases-loop-more
decreases-loop-more l = length l.rest
