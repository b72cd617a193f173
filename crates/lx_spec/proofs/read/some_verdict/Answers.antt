use Rattle.lx_spec.proofs.SomeVerdict.{some_verdict}
use Rattle.lx_spec.proofs.read.some_verdict.Goals as goal

pub returns : goal.returns
returns c = some_verdict c.some_reading.ensures.patterns c.some_reading.ensures.substitutes c.one_reading.ensures
