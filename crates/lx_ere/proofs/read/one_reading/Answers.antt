use Rattle.lx_ere.proofs.ReadLemmas.{one_pattern}
use Rattle.lx_ere.proofs.read.one_reading.Goals as goal

pub returns : goal.returns
returns c = one_pattern
