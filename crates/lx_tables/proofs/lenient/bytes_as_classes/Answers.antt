use Rattle.std.proofs.Common.{◌+◌, ◌∙◌, arith}
use Rattle.lx_tables.proofs.Onto.{bytes_more, bytes_all}
use Rattle.lx_tables.proofs.lenient.bytes_as_classes.Goals as goal

pub loop-byte-preserved : goal.loop-byte-preserved
loop-byte-preserved c = bytes_more c.loop-byte.byte (c.loop-byte.byte + 1) c.loop-byte.classes.items _ (omega arith) c.in_ok-push.ensures.items c.loop-byte.invariant

pub returns : goal.returns
returns c = c.loop-byte.invariant ∙ bytes_all c.loop-byte.byte (omega arith)
