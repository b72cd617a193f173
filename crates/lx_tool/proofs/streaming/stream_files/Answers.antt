use Rattle.std.proofs.Common.{ℕ, ◌+◌, refl, ◌∙◌, ap}
use Rattle.std.proofs.lemmas.Result.{err_from_is_err_and}
use Rattle.lx_scan.specs.Streams.{first_stream}
use Rattle.lx_piece.specs.Plans.{Planned}
use Rattle.lx_tool.proofs.StreamedFiles.{stops_here, streamed_all, streamed_as, streamed_next, streamed_none}
use Rattle.lx_tool.proofs.streaming.stream_files.Goals as goal

pub loop-name-init : goal.loop-name-init
loop-name-init g c = record {
  style = refl;
  plan = refl;
  stream = c.requires.first;
  file = refl;
  listed = rw c.new-cut.ensures.items (streamed_none g.S.Sources.gives g.K.LineSink.wrote g.met.K.LineSink.wrote_nothing g.met.K.LineSink.wrote_on (g.L.LineStyle.style c.args.lines.now.style) c.args.lines.now.plan.table c.args.sources.now c.args.lines.now.sink);
}

pub returns-in_err-is_cut-clause-err : goal.returns-in_err-is_cut-clause-err
returns-in_err-is_cut-clause-err g c =
    let p = err_from_is_err_and c.from_residual.result c.from_residual.ensures.1 in
    let lines = c.args.lines.now in
    rw (p.1, p.2) (λ low.
    let failed = c.in_err-is_cut.ensures.err low in (
      _,
      failed.0,
      stops_here g.S.Sources.gives g.K.LineSink.wrote g.met.K.LineSink.wrote_nothing g.met.K.LineSink.wrote_on (g.L.LineStyle.style lines.style) lines.plan.table c.args.names.now c.loop-name.name-index _ c.loop-name-test.true
          c.args.sources.now c.loop-name.sources _ lines.sink c.loop-name.lines.sink _ c.loop-name.invariant.listed failed.1,
    ))

pub loop-name-preserved : goal.loop-name-preserved
loop-name-preserved g c =
    let before = c.loop-name.invariant in
    let lines = c.args.lines.now in
    let file = c.in_ok-is_cut.ensures in
    record {
      style = file.style ∙ before.style;
      plan = file.plan ∙ before.plan;
      stream = file.stream ∙ ap (λ (p : Planned). first_stream p.table) before.plan;
      file = ap (λ (n : ℕ). n + 1) before.file;
      listed = streamed_next g.S.Sources.gives g.K.LineSink.wrote g.met.K.LineSink.wrote_nothing g.met.K.LineSink.wrote_on (g.L.LineStyle.style lines.style) lines.plan.table c.args.names.now c.loop-name.name-index _ c.loop-name-test.true
          c.args.sources.now c.loop-name.sources c.stream_file.new.sources _ _ c.loop-name.file c.in_ok-is_cut.is_cut lines.sink c.loop-name.lines.sink c.stream_file.new.lines.sink before.file before.listed
          (streamed_as g.L.LineStyle.style g.S.Sources.gives g.K.LineSink.wrote c.loop-name.lines lines c.loop-name.file _ c.loop-name.sources c.stream_file.new.sources c.in_ok-is_cut.is_cut c.loop-name.lines.sink c.stream_file.new.lines.sink before.style before.plan file.ok)
          c.in_ok-keep_cut.ensures;
    }

pub returns-clause-ok : goal.returns-clause-ok
returns-clause-ok g c =
    let lines = c.args.lines.now in
    streamed_all g.S.Sources.gives g.K.LineSink.wrote g.met.K.LineSink.wrote_nothing g.met.K.LineSink.wrote_on (g.L.LineStyle.style lines.style) lines.plan.table c.args.names.now c.loop-name.name-index
    c.args.sources.now c.loop-name.sources _ lines.sink c.loop-name.lines.sink c.loop-name-test.false c.loop-name.invariant.listed
