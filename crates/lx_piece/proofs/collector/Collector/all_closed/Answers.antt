use Rattle.std.proofs.Common.{◌≡◌, ◌↔◌, true, subst, List}
use Rattle.std.specs.Prelude.{All}
use Rattle.lx_piece.specs.Kept.{Kept, Buffered, is_buffer_closed}
use Rattle.lx_piece.proofs.Closed.{files_closed}
use Rattle.lx_piece.proofs.collector.Collector.all_closed.Goals as goal

pub returns-clause-buffers : goal.returns-clause-buffers
returns-clause-buffers g c =
    subst (λ (k : Kept _). (c.all_buffers_closed.result ≡ true) ↔ All (λ buffer. is_buffer_closed buffer ≡ true) k.buffers) c.self.view_is
    (subst (λ (buffers : List (Buffered _)). (c.all_buffers_closed.result ≡ true) ↔ All (λ buffer. is_buffer_closed buffer ≡ true) buffers) c.deref.ensures.value c.all_buffers_closed.ensures)

pub returns-clause-closed : goal.returns-clause-closed
returns-clause-closed g c = λ came s. files_closed c.args.self.now came c.all_buffers_closed.result s (returns-clause-buffers g c)
