use Rattle.std.proofs.Common.{length}
use Rattle.lx.proofs.names.ShownNames.show.Given as goal

abbrev pub decreases-loop-rest : goal.decreases-loop-rest
decreases-loop-rest g l = length l.rest
