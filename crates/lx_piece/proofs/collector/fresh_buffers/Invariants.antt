use Rattle.std.proofs.Common.{◌≡◌, replicate}
use Rattle.lx_piece.specs.Kept.{fresh_buffer}
use Rattle.lx_piece.proofs.collector.fresh_buffers.Given as goal

abbrev pub invariant-loop-file : goal.invariant-loop-file
invariant-loop-file g l = l.buffers.items ≡ replicate l._file fresh_buffer
