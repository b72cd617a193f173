use Rattle.std.proofs.Common.{arith}
use Rattle.lx_graph.specs.Labels.{leads, range_part, ranges}
use Rattle.lx_graph.proofs.Texts.{text_end, text_next}
use Rattle.lx_graph.proofs.labels.push_ranges.Goals as goal

pub loop-byte-preserved : goal.loop-byte-preserved
loop-byte-preserved c = text_next (range_part (leads c.args.tables.now.machine c.args.state c.args.target)) _ _ _ (256) c.loop-byte.byte (omega arith) c.loop-byte.invariant c.in_ok-push_range_at.ensures

pub returns : goal.returns
unfolding ranges
returns c = text_end (range_part (leads c.args.tables.now.machine c.args.state c.args.target)) _ _ (256) c.loop-byte.byte (omega arith) c.loop-byte.invariant
