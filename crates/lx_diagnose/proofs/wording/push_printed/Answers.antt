use Rattle.std.proofs.Common.{arith}
use Rattle.lx_diagnose.specs.Printed.{escaped, shown}
use Rattle.lx_diagnose.proofs.Texts.{elements_end}
use Rattle.lx_diagnose.proofs.wording.push_printed.Goals as goal

pub returns-clause-value : goal.returns-clause-value
unfolding shown
returns-clause-value c = elements_end escaped _ _ c.args.bytes.now c.loop-byte.byte-index (omega arith) c.loop-byte.invariant.value
