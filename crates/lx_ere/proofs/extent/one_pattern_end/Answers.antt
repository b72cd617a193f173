use Rattle.lx_ere.specs.PatternEndLaws.{one_end}
use Rattle.lx_ere.proofs.extent.one_pattern_end.Goals as goal

pub returns : goal.returns
returns c = one_end
