use Rattle.std.proofs.Common.{◌≡◌, ◌+◌, ◌-◌, arith, subst, take}
use Rattle.std.specs.Io.KnownBytes.{Appends}
use Rattle.std.proofs.lemmas.Result.{err_from_is_err_and}
use Rattle.lx_listing.proofs.Appending.{appends_more, prefix_part}
use Rattle.lx_listing.proofs.writing.write_each.Goals as goal

pub returns-in_err-write_whole-clause-err : goal.returns-in_err-write_whole-clause-err
returns-in_err-write_whole-clause-err g c =
    let p = err_from_is_err_and c.from_residual.result c.from_residual.ensures.1 in
    let done = c.loop-done.done in
    rw p.1 (prefix_part (g.W.Write.contents c.args.out.now) (g.W.Write.contents c.loop-done.out) (g.W.Write.contents c.write_whole.new.out) c.args.block.now done (c.line_end-end.result - done) c.loop-done.invariant.wrote c.in_err-write_whole.ensures.err)

pub loop-done-preserved : goal.loop-done-preserved
loop-done-preserved g c =
    let done = c.loop-done.done in
    let end = c.line_end-end.result in
    let later = c.line_end-end.ensures.later in
    let whole : done + (end - done) ≡ end = omega arith in
    record {
      within = c.line_end-end.ensures.within;
      wrote = subst (λ n. Appends (g.W.Write.contents c.args.out.now) (g.W.Write.contents c.write_whole.new.out) (take n c.args.block.now)) whole
          (appends_more (g.W.Write.contents c.args.out.now) (g.W.Write.contents c.loop-done.out) (g.W.Write.contents c.write_whole.new.out) c.args.block.now done (end - done) c.loop-done.invariant.wrote c.in_ok-write_whole.ensures.ok);
    }
