use Rattle.lx_tool.proofs.StreamedFiles.{file_streamed}
use Rattle.lx_tool.proofs.streaming.stream_file.Goals as goal

pub returns-clause-ok : goal.returns-clause-ok
returns-clause-ok g c =
    let given = c.in-Ok.ensures.given in
    record {
      bytes = given.bytes;
      given = given.given;
      are_bytes = given.are_bytes;
      lines = file_streamed g.L.LineStyle.style g.K.LineSink.wrote g.met.K.LineSink.wrote_nothing c.args.lines.now c.begin_file.new.self c.read_blocks.new.taker c.end_file.new.self.sink c.args.file given.bytes c.in-Ok.is_cut
          c.requires c.begin_file.ensures given.taken c.in_ok-end_file.ensures.lines;
    }
