use Rattle.std.proofs.Common.{◌≡◌, length}
use Rattle.lx_flex_pattern.specs.Lexing.{behind_paren}
use Rattle.lx_flex_pattern.proofs.lexing.behind_paren.Given as goal

abbrev pub invariant-loop-first : goal.invariant-loop-first
invariant-loop-first l = behind_paren l.rest ≡ behind_paren l.text

abbrev pub decreases-loop-first : goal.decreases-loop-first
decreases-loop-first l = length l.rest
