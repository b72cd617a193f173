use Rattle.std.proofs.Common.{◌≢◌, ◌<◌, ◌≤◌, ◌-◌, ℕ, slice_index}
use Rattle.lx_minimize.proofs.members.next_of_block.Given as goal

abbrev pub invariant-loop-done : goal.invariant-loop-done
invariant-loop-done l = record {
  within : l.done ≤ l.end;
  behind : l.from ≤ l.done;
  none : (t : ℕ) → l.from ≤ t → t < l.done → slice_index l.blocks t ≢ l.number;
}

abbrev pub decreases-loop-done : goal.decreases-loop-done
decreases-loop-done l = l.end - l.done

abbrev pub invariant-loop-state : goal.invariant-loop-state
invariant-loop-state l = record {
  behind : l.from ≤ l.state;
  none : (t : ℕ) → l.from ≤ t → t < l.state → slice_index l.blocks t ≢ l.number;
}
