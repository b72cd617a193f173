use Rattle.std.proofs.Common.{◌≡◌, map, take}
use Rattle.lx_scan.specs.Streams.{first_stream}
use Rattle.lx_tool.specs.Given.{AreListed}
use Rattle.lx_tool.specs.Streaming.{GathersFront}
use Rattle.lx_tool.proofs.streaming.stream_files.Given as goal

abbrev pub invariant-loop-name : goal.invariant-loop-name
invariant-loop-name g l = record {
  style : l.lines.style ≡ l.fn.lines.style;
  plan : l.lines.plan ≡ l.fn.lines.plan;
  stream : l.lines.stream ≡ first_stream l.fn.lines.plan.table;
  file : l.file ≡ l.name-index;
  listed : AreListed g.S.Sources.gives (λ inputs. GathersFront g.K.LineSink.wrote (g.L.LineStyle.style l.fn.lines.style) l.fn.lines.plan.table inputs l.fn.lines.sink l.lines.sink)
      (take l.name-index (map (λ name. name.now) l.names)) l.fn.sources l.sources (map (λ name. name.now) l.cut.items);
}
