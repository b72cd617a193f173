use Rattle.lx_line.proofs.Places.{placed_chunk}
use Rattle.lx_line.proofs.place.put_16.Goals as goal

pub returns : goal.returns
returns c = λ len part. placed_chunk c.args.buf.now c.args.src.now c.args.at 16 c.args.from len c.requires.room c.requires.source part
