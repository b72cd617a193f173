use Rattle.std.proofs.Common.{◌∙◌}
use Rattle.lx_ere.proofs.ByteLemmas.{ranges_more}
use Rattle.lx_ere.proofs.set.ByteSet.insert_ranges.Goals as goal

pub loop-range-preserved : goal.loop-range-preserved
loop-range-preserved c = λ test e. c.insert_range.ensures _ (c.loop-range.invariant test e) ∙ ranges_more c.args.ranges.now c.loop-range.range-index (0, 0) test c.loop-range-test.true
