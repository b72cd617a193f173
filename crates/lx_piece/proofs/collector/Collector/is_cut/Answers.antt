use Rattle.std.proofs.Common.{◌≡◌, ◌∙◌, sym, ap, subst, Some}
use Rattle.std.specs.Prelude.{slice_get}
use Rattle.std.proofs.lemmas.Option.{get_or_from_slice_get}
use Rattle.lx_piece.specs.Kept.{Kept, is_buffer_truncated}
use Rattle.lx_piece.proofs.Closed.{file_truncated}
use Rattle.lx_piece.proofs.collector.Collector.is_cut.Goals as goal

pub returns-clause-cut : goal.returns-clause-cut
returns-clause-cut g c = λ came s. file_truncated c.args.self.now came c.args.file c.is_truncated.result s c.requires (λ buffer at.
    let there = subst (λ (kept : Kept _). slice_get kept.buffers c.args.file ≡ Some buffer) (sym c.self.view_is) at in
    c.is_truncated.ensures ∙ ap is_buffer_truncated (c.index-buffer.ensures ∙ get_or_from_slice_get c.self.inside.buffers.items c.args.file buffer c.index-buffer.result.now there))
