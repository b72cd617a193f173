use Rattle.lx_flex_pattern.proofs.Rows.{one_reading}
use Rattle.lx_flex_pattern.proofs.reading.one_flex_reading.Goals as goal

pub returns : goal.returns
returns c = one_reading
