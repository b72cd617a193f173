use Rattle.std.proofs.Common.{length}
use Rattle.lx_ere.specs.Lexing.{quoted_byte_at}
use Rattle.lx_ere.specs.ScanLaws.{Scanned}
use Rattle.lx_ere.proofs.lexeme.quoted_bytes_at.Given as goal

abbrev pub invariant-loop-rest : goal.invariant-loop-rest
invariant-loop-rest l = Scanned quoted_byte_at 34 l.text l.bytes.items l.rest

abbrev pub decreases-loop-rest : goal.decreases-loop-rest
decreases-loop-rest l = length l.rest
