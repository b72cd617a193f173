use Rattle.std.proofs.Common.{◌∙◌, sym, ap, [], ◌∷◌, ◌++◌}
use Rattle.std.specs.Prelude.{slice_set}
use Rattle.lx_piece.specs.Waiting.{queued}
use Rattle.lx_piece.proofs.Handing.{queue_read, queue_set}
use Rattle.lx_piece.proofs.waiting.hold.Goals as goal
use Rattle.lx_piece.proofs.waiting.hold.Goals.{in-Ok, in-Err}

pub returns-clause-held : goal.returns-clause-held
returns-clause-held g c =
    let queues = c.args.waiting.now.items in
    let file = c.args.piece.file in
    elim c.match-push_back.branch [
      | in-Ok w ↦
          rw w.result-is
          (queue_set queues file c.push_back.new.self
          ∙ ap (λ ps. slice_set (queued queues) file ps) (w.in-Ok.ensures.items ∙ ap (λ ps. ps ++ c.args.piece ∷ []) (sym (queue_read queues file c.index_mut-queue.result.now c.requires c.index_mut-queue.ensures.value))))
      | in-Err w ↦ rw w.result-is tt
    ]
