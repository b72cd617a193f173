use Rattle.lx_ere.proofs.OrderedBounds.{pattern_ordered, substitute_ordered}
use Rattle.lx_ere.proofs.read.bounds_are_ordered.Goals as goal

pub returns : goal.returns
returns c = record { patterns = pattern_ordered; substitutes = substitute_ordered }
