use Rattle.std.proofs.Common.{arith}
use Rattle.lx_auto.proofs.Copying.{copy-more}
use Rattle.lx_auto.proofs.unfolding.repeat.append_copies.Goals as goal

pub loop-copy-preserved : goal.loop-copy-preserved
loop-copy-preserved c = record {
  copied = copy-more c.args.nodes.now.items c.loop-copy.nodes.items c.extend_from_within.new.self.items c.loop-copy._copy c.saturating_sub-start.result _ (omega arith) c.loop-copy.invariant.long c.loop-copy.invariant.copied c.in_ok-extend_from_within.ensures.items;
  long = c.loop-copy.invariant.long;
}
