use Rattle.std.proofs.Common.{arith, [], ◌∷◌}
use Rattle.lx_report.specs.Bytes.{times}
use Rattle.lx_report.proofs.Texts.{text_end, text_next}
use Rattle.lx_report.proofs.bytes.push_times.Goals as goal

pub loop-preserved : goal.loop-preserved
loop-preserved c = text_next (λ k. c.args.byte ∷ []) _ _ _ c.args.times c.loop.counter (omega arith) c.loop.invariant c.in_ok-push.ensures

pub returns : goal.returns
unfolding times
returns c = text_end (λ k. c.args.byte ∷ []) _ _ c.args.times c.loop.counter (omega arith) c.loop.invariant
