use Rattle.lx_ere.proofs.ReachLemmas.{reaches_end}
use Rattle.lx_ere.proofs.read.pattern_reaches_end.Goals as goal

pub returns : goal.returns
returns c = reaches_end
