use Rattle.std.proofs.Common.{◌≡◌, ◌∙◌, sym, ap, subst, Some}
use Rattle.std.specs.Prelude.{slice_get}
use Rattle.std.proofs.lemmas.Option.{get_or_from_slice_get}
use Rattle.lx_piece.specs.Kept.{Kept, is_buffer_closed}
use Rattle.lx_piece.proofs.Closed.{file_closed}
use Rattle.lx_piece.proofs.collector.Collector.is_closed.Goals as goal

pub returns-clause-closed : goal.returns-clause-closed
returns-clause-closed g c = λ came s. file_closed c.args.self.now came c.args.file c.is_closed.result s c.requires (λ buffer at.
    let there = subst (λ (kept : Kept _). slice_get kept.buffers c.args.file ≡ Some buffer) (sym c.self.view_is) at in
    c.is_closed.ensures ∙ ap is_buffer_closed (c.index-buffer.ensures ∙ get_or_from_slice_get c.self.inside.buffers.items c.args.file buffer c.index-buffer.result.now there))
