use Rattle.lx_ere.specs.PatternEndLaws.{some_end}
use Rattle.lx_ere.proofs.LeastEnd.{is_pattern_end}
use Rattle.lx_ere.proofs.extent.some_pattern_end.Goals as goal

pub returns : goal.returns
returns c = record { some = some_end; there = is_pattern_end }
