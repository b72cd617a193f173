use Rattle.std.proofs.Common.{ap, Bor, ℕ, List, map}
use Rattle.std.specs.Prelude.{is_err}
use Rattle.std.proofs.lemmas.Result.{IfErr-weaker, IfOk-weaker}
use Rattle.lx_tool.specs.Streaming.{GathersFront, WroteAll}
use Rattle.lx_tool.proofs.GivenListed.{listed_as_well}
use Rattle.lx_tool.proofs.StreamedFiles.{stops_as_well, wrote_all}
use Rattle.lx_tool.proofs.streaming.stream_to.Goals as goal

pub returns-in-Ok-rest-clause-ok : goal.returns-in-Ok-rest-clause-ok
returns-in-Ok-rest-clause-ok g c =
    let wrote = g.K.LineSink.wrote in
    let lines = c.in-Ok.lines in
    let new = c.stream_files-answer.new in
    let names : List (List ℕ) = map (λ (name : Bor (List ℕ)). name.now) c.args.names.now in
    let all = wrote_all g.L.LineStyle.style wrote g.met.K.LineSink.wrote_on lines.style c.args.style lines.plan c.args.plan.now c.args.sink c.finish-sink.result.0 lines.sink new.lines.sink (is_err c.finish-sink.result.1)
    c.in-Ok.ensures.style c.in-Ok.ensures.plan c.in-Ok.ensures.sink (ap is_err c.in-Ok-rest.is) c.finish-sink.ensures in
    IfOk-weaker c.stream_files-answer.result _ _
    (λ cut l. listed_as_well g.S.Sources.gives (λ inputs. GathersFront wrote (g.L.LineStyle.style lines.style) lines.plan.table inputs lines.sink new.lines.sink) (λ inputs. WroteAll wrote (g.L.LineStyle.style c.args.style) c.args.plan.now.table inputs c.args.sink c.finish-sink.result.0)
    (λ inputs bytes f. all inputs f) names c.args.sources.now new.sources (map (λ (name : Bor (List ℕ)). name.now) cut.items) l)
    c.stream_files-answer.ensures.ok

pub returns-in-Ok-rest-clause-err : goal.returns-in-Ok-rest-clause-err
returns-in-Ok-rest-clause-err g c =
    let wrote = g.K.LineSink.wrote in
    let lines = c.in-Ok.lines in
    let new = c.stream_files-answer.new in
    let names : List (List ℕ) = map (λ (name : Bor (List ℕ)). name.now) c.args.names.now in
    let all = wrote_all g.L.LineStyle.style wrote g.met.K.LineSink.wrote_on lines.style c.args.style lines.plan c.args.plan.now c.args.sink c.finish-sink.result.0 lines.sink new.lines.sink (is_err c.finish-sink.result.1)
    c.in-Ok.ensures.style c.in-Ok.ensures.plan c.in-Ok.ensures.sink (ap is_err c.in-Ok-rest.is) c.finish-sink.ensures in
    IfErr-weaker c.stream_files-answer.result _ _
    (λ failure h low. let s = h low in (
      s.0,
      s.1,
      stops_as_well g.S.Sources.gives (λ inputs. GathersFront wrote (g.L.LineStyle.style lines.style) lines.plan.table inputs lines.sink new.lines.sink) (λ inputs. WroteAll wrote (g.L.LineStyle.style c.args.style) c.args.plan.now.table inputs c.args.sink c.finish-sink.result.0)
          all names c.args.sources.now s.0.now s.2,
    ))
    c.stream_files-answer.ensures.err
