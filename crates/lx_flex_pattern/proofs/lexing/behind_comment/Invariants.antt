use Rattle.std.proofs.Common.{◌≡◌, length}
use Rattle.lx_flex_pattern.specs.Lexing.{behind_comment}
use Rattle.lx_flex_pattern.proofs.lexing.behind_comment.Given as goal

abbrev pub invariant-loop-first : goal.invariant-loop-first
invariant-loop-first l = behind_comment l.rest ≡ behind_comment l.text

abbrev pub decreases-loop-first : goal.decreases-loop-first
decreases-loop-first l = length l.rest
