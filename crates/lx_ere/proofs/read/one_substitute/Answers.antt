use Rattle.lx_ere.proofs.ReadLemmas as reading
use Rattle.lx_ere.proofs.read.one_substitute.Goals as goal

pub returns : goal.returns
returns c = reading.one_substitute
