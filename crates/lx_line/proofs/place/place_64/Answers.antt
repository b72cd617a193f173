use Rattle.lx_line.proofs.Places.{placed_chunk}
use Rattle.lx_line.proofs.place.place_64.Goals as goal

pub returns : goal.returns
returns c = placed_chunk c.args.buf.now c.args.src.now c.args.at 64 c.args.from c.args.len c.requires.room c.requires.source c.requires.part
