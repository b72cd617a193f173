use Rattle.std.proofs.Common.{ℕ, ◌∙◌, sym, ap, subst}
use Rattle.lx_piece.specs.Plans.{Planned}
use Rattle.lx_piece.specs.Pieces.{piece_at}
use Rattle.lx_piece.specs.NextPiece.{IsNextPiece}
use Rattle.lx_fixtures.proofs.Planning.{first_next}
use Rattle.lx_fixtures.proofs.readers.take_first.Goals as goal

pub take-requires-clause-next : goal.take-requires-clause-next
take-requires-clause-next g c =
    let plan = c.args.plan.now in
    let e = rw c.in-Some.is at c.in_ok-piece.ensures.piece in
    let cutter = c.new-cutter.result in
    let first = e.1 ∙ ap (λ (file : ℕ). piece_at plan file cutter.next) c.new-cutter.ensures.file ∙ ap (λ (n : ℕ). piece_at plan 0 n) c.new-cutter.ensures.first in
    subst (λ (p : Planned). IsNextPiece p (g.R.Reader.counts c.args.reader.now) c.in-Some.piece) (sym c.requires.same)
    (first_next plan (g.R.Reader.counts c.args.reader.now) 0 c.in-Some.piece c.requires.plan e.0 first c.requires.counts)
