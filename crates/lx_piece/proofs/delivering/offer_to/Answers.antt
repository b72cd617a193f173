use Rattle.std.proofs.Common.{sym, subst, ap, ◌++◌, ◌∷◌, []}
use Rattle.lx_piece.specs.Arrivals.{reply_for, cause_against, accepted_of}
use Rattle.lx_piece.specs.Kept.{StandsFor, shape_of_kept, delivered_counts}
use Rattle.lx_piece.proofs.Standing.{stands_still, named_cause}
use Rattle.lx_piece.proofs.ReaderCounts.{counts_kept}
use Rattle.lx_piece.proofs.delivering.offer_to.Goals as goal

pub returns-in-Ok-clause-counts : goal.returns-in-Ok-clause-counts
returns-in-Ok-clause-counts g c = counts_kept _ _ c.args.piece c.in-Ok.ensures.kept

pub returns : goal.returns
returns g c =
    let e = c.in-Err.ensures in
    let same = e.err.1 in
    let why = c.in-Err.refused.why in
    let old = c.args.collector.now in
    record {
      reply = λ came s. ap reply_for (sym (named_cause why (cause_against (shape_of_kept old) (accepted_of (shape_of_kept old) came) c.args.piece) c.in_default.not-Memory (e.reply came s)));
      stands = λ came s. subst (λ k. StandsFor k (came ++ c.args.piece ∷ [])) (sym same) (stands_still old came c.args.piece why s (sym (named_cause why (cause_against (shape_of_kept old) (accepted_of (shape_of_kept old) came) c.args.piece) c.in_default.not-Memory (e.reply came s))));
      shape = ap shape_of_kept same;
      counts = ap delivered_counts same;
      memory = tt;
      err = tt;
    }
