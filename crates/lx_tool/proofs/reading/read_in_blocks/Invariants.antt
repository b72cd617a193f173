use Rattle.std.proofs.Common.{◌<◌, vec_len}
use Rattle.lx_tool.specs.Sources.{TakesOn}
use Rattle.lx_tool.proofs.reading.read_in_blocks.Given as goal

abbrev pub invariant-loop : goal.invariant-loop
invariant-loop g l = record {
  taken : TakesOn g.B.BlockTaker.takes (g.R.Read.remaining l.fn.reader) (g.R.Read.remaining l.reader) l.fn.taker l.taker;
  room : 0 < vec_len l.chunk;
}
