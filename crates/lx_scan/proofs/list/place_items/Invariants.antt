use Rattle.std.proofs.Common.{◌≡◌, ◌+◌, ◌≤◌, ◌++◌, length, take}
use Rattle.lx_scan.specs.Ends.{AreEnds, end_of, ends_from, items_of_ends, line_of}
use Rattle.lx_scan.proofs.list.place_items.Given as goal

abbrev pub invariant-loop-end : goal.invariant-loop-end
invariant-loop-end l = record {
  ends : AreEnds l.tables l.start (ends_from l.fn.from l.rest);
  items : take l.len l.room ++ items_of_ends l.tables l.start l.line (ends_from l.fn.from l.rest) ≡ take l.at l.fn.room ++ items_of_ends l.tables l.fn.from.offset l.fn.from.line (ends_from l.fn.from l.fn.ends);
  few : l.len + length l.rest ≤ l.at + length l.fn.ends;
  room : length l.room ≡ length l.fn.room;
  offset : end_of l.start (ends_from l.fn.from l.rest) ≡ end_of l.fn.from.offset (ends_from l.fn.from l.fn.ends);
  line : line_of l.line (ends_from l.fn.from l.rest) ≡ line_of l.fn.from.line (ends_from l.fn.from l.fn.ends);
}

abbrev pub decreases-loop-end : goal.decreases-loop-end
decreases-loop-end l = length l.rest
