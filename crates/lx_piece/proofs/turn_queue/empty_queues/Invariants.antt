use Rattle.std.proofs.Common.{◌≡◌, ◌≤◌, replicate, vec_capacity, []}
use Rattle.lx_piece.specs.Waiting.{queued}
use Rattle.lx_piece.proofs.turn_queue.empty_queues.Given as goal

abbrev pub invariant-loop-file : goal.invariant-loop-file
invariant-loop-file g l =
    record {
      empty : queued l.queues.items ≡ replicate l._file [];
      room : l.files ≤ vec_capacity l.queues;
    }
