use Rattle.lx_ere.proofs.SomeReading.{some_pattern, some_substitute}
use Rattle.lx_ere.proofs.read.some_reading.Goals as goal

pub returns : goal.returns
returns c = record { patterns = some_pattern; substitutes = some_substitute }
