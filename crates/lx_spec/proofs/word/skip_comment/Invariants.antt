use Rattle.std.proofs.Common.{◌≡◌, ◌≤◌, length}
use Rattle.lx_spec.specs.ActionWords as plain
use Rattle.lx_spec.proofs.word.skip_comment.Given as goal

abbrev pub invariant-loop-behind : goal.invariant-loop-behind
invariant-loop-behind l = record {
  same : plain.behind_comment l.rest ≡ plain.behind_comment l.text;
  less : length l.rest ≤ length l.text;
}

abbrev pub decreases-loop-behind : goal.decreases-loop-behind
decreases-loop-behind l = length l.rest
