use Rattle.std.proofs.Common.{ℕ, ◌≡◌, ◌+◌, ◌-◌, arith, subst, take}
use Rattle.std.specs.List.{flat_map}
use Rattle.std.proofs.lemmas.Result.{err_from_is_err_and}
use Rattle.lx_listing.specs.Gathered.{Gathers}
use Rattle.lx_listing.specs.GatheredLaws.{gathers_on}
use Rattle.lx_listing.specs.Lines.{escaped}
use Rattle.lx_listing.proofs.Parting.{texts_on, texts_prefix}
use Rattle.lx_listing.proofs.parts.gather_text.Goals as goal

pub returns-in_err-gather_part-clause-err : goal.returns-in_err-gather_part-clause-err
returns-in_err-gather_part-clause-err g c =
    let p = err_from_is_err_and c.from_residual.result c.from_residual.ensures.1 in
    let done = c.loop-done.done in
    rw p.1 (texts_prefix (Gathers g.S.LineSink.wrote) (gathers_on g.S.LineSink.wrote g.met.S.LineSink.wrote_on) escaped c.args.text.now done (done + c.min.result - done) c.args.sink.now c.loop-done.sink c.gather_part.new.sink c.loop-done.invariant.wrote c.in_err-gather_part.ensures.err)

pub loop-done-preserved : goal.loop-done-preserved
loop-done-preserved g c =
    let done = c.loop-done.done in
    let count : done + c.min.result - done ≡ c.min.result = omega arith in
    record {
      within = omega arith;
      wrote = subst (λ (n : ℕ). Gathers g.S.LineSink.wrote c.args.sink.now (flat_map escaped (take (done + n) c.args.text.now)) c.gather_part.new.sink) count
          (texts_on (Gathers g.S.LineSink.wrote) (gathers_on g.S.LineSink.wrote g.met.S.LineSink.wrote_on) escaped c.args.text.now done (done + c.min.result - done) c.args.sink.now c.loop-done.sink c.gather_part.new.sink c.loop-done.invariant.wrote c.in_ok-gather_part.ensures.ok);
    }
