use Rattle.std.proofs.Common.{length}
use Rattle.lx.proofs.names.text_of.Given as goal

abbrev pub decreases-loop-rest : goal.decreases-loop-rest
decreases-loop-rest l = length l.rest
