use Rattle.std.proofs.Common.{arith}
use Rattle.lx_tool.proofs.SourceLemmas.{counts_one}
use Rattle.lx_tool.proofs.asked.inputs_among.Goals as goal

pub loop-name-preserved : goal.loop-name-preserved
loop-name-preserved c =
    let few = c.loop-name.invariant.few in
    let one = c.input-count.ensures.few in
    record {
      rest = counts_one c.args.names.now c.loop-name.name-index _ c.loop-name.count c.input-count.result _ c.loop-name-test.true c.input-count.ensures.value c.loop-name.invariant.rest;
      few = omega (arith, few, one);
    }
