use Rattle.std.proofs.Common.{arith}
use Rattle.lx_diagnose.specs.Printed.{filled, filling}
use Rattle.lx_diagnose.proofs.Texts.{elements_end}
use Rattle.lx_diagnose.proofs.wording.push_phrase.Goals as goal

pub returns-clause-value : goal.returns-clause-value
unfolding filled
returns-clause-value c =
    elements_end (filling c.args.fillings.now.name.now c.args.fillings.now.other.now c.args.fillings.now.line) _ _ c.args.phrase.now c.loop-byte.byte-index (omega arith) c.loop-byte.invariant.value
