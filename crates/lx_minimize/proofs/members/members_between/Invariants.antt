use Rattle.std.proofs.Common.{◌≡◌, ◌≢◌, ◌<◌, ◌≤◌, ◌-◌, ℕ, true, false, Contains, length, slice_index}
use Rattle.lx_minimize.specs.Partitions.{flag}
use Rattle.lx_minimize.proofs.members.members_between.Given as goal

abbrev pub invariant-loop-state : goal.invariant-loop-state
invariant-loop-state l = record {
  within : l.from ≤ l.end;
  long : length l.inside.items ≡ length l.blocks;
  inside_block : (s : ℕ) → s < l.from → slice_index l.blocks s ≡ l.number → flag l.inside.items s ≡ true;
  outside_block : (s : ℕ) → s < l.from → slice_index l.blocks s ≢ l.number → flag l.inside.items s ≡ false;
  ahead : (s : ℕ) → l.from ≤ s → flag l.inside.items s ≡ false;
  listed : (s : ℕ) → flag l.inside.items s ≡ true → Contains l.states.items s;
}

abbrev pub decreases-loop-state : goal.decreases-loop-state
decreases-loop-state l = l.end - l.from
