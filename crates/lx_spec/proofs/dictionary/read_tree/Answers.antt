use Rattle.std.proofs.Common.{Err, ap}
use Rattle.lx_spec.proofs.dictionary.read_tree.Goals as goal

pub returns-in-Err-NoReading : goal.returns-in-Err-NoReading
returns-in-Err-NoReading c = λ u. c.in-Err-NoReading.ensures.refused (ap Err c.in-Err-NoReading.field-0-is) u
