use Rattle.std.proofs.Common.{ℕ, ◌≤◌, List, length}
use Rattle.lx_ere.specs.PatternGrammar.{BehindQuotes}
use Rattle.lx_ere.proofs.extent.skip_quotes.Given as goal

abbrev pub invariant-loop-first : goal.invariant-loop-first
invariant-loop-first l = record {
  within : length l.rest ≤ length l.text;
  keeps : (behind : List ℕ) → BehindQuotes l.rest behind → BehindQuotes l.text behind;
}

abbrev pub decreases-loop-first : goal.decreases-loop-first
decreases-loop-first l = length l.rest
