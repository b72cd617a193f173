use Rattle.std.proofs.Common.{◌∙◌, arith}
use Rattle.lx_ere.proofs.ByteLemmas.{range_none, range_more, range_all}
use Rattle.lx_ere.proofs.set.ByteSet.insert_range.Goals as goal

pub loop-byte-init : goal.loop-byte-init
loop-byte-init c = record { within = omega arith; added = λ test e. e ∙ range_none c.args.first test }

pub loop-byte-preserved : goal.loop-byte-preserved
loop-byte-preserved c = record {
  within = omega arith;
  added = λ test e. c.insert.ensures _ (c.loop-byte.invariant.added test e) ∙ range_more c.args.first c.loop-byte.byte test (omega arith);
}

pub returns : goal.returns
returns c = λ test e. c.loop-byte.invariant.added test e ∙ range_all c.args.first c.args.last c.loop-byte.byte test c.loop-byte-test.false c.loop-byte.invariant.within
