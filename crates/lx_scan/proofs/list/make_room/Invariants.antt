use Rattle.std.proofs.Common.{◌≡◌, ◌-◌, ◌≤◌, ℕ, length, take}
use Rattle.lx_scan.proofs.list.make_room.Given as goal

abbrev pub invariant-loop-room : goal.invariant-loop-room
invariant-loop-room l = record {
  same : (n : ℕ) → n ≤ length l.fn.room.items → take n l.room.items ≡ take n l.fn.room.items;
  more : length l.fn.room.items ≤ length l.room.items;
}

abbrev pub decreases-loop-room : goal.decreases-loop-room
decreases-loop-room l = l.count - length l.room.items
