use Rattle.std.proofs.Common.{ℕ, ◌≤◌, List, length}
use Rattle.lx_ere.specs.PatternGrammar.{BehindBrackets}
use Rattle.lx_ere.proofs.extent.skip_brackets.Given as goal

abbrev pub invariant-loop-first : goal.invariant-loop-first
invariant-loop-first l = record {
  within : length l.rest ≤ length l.text;
  keeps : (behind : List ℕ) → BehindBrackets l.rest behind → BehindBrackets l.text behind;
}

abbrev pub decreases-loop-first : goal.decreases-loop-first
decreases-loop-first l = length l.rest
