use Rattle.std.proofs.Common.{◌≡◌, length, true}
use Rattle.lx_flex_pattern.specs.Lexing.{flags_at}
use Rattle.lx_flex_pattern.proofs.lexing.flags_at.Given as goal

abbrev pub invariant-loop-first : goal.invariant-loop-first
invariant-loop-first l = flags_at l.flags l.on l.rest ≡ flags_at l.fn.outer true l.text

abbrev pub decreases-loop-first : goal.decreases-loop-first
decreases-loop-first l = length l.rest
