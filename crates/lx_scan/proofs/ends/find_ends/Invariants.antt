use Rattle.std.proofs.Common.{◌+◌, ◌++◌, ◌-◌, ◌≤◌, ℕ, List, length, take}
use Rattle.lx_tables.specs.Joined.{joined_width}
use Rattle.lx_scan.proofs.Runs.{Runs}
use Rattle.lx_scan.proofs.ends.find_ends.Given as goal

abbrev pub invariant-bytes : goal.invariant-bytes
invariant-bytes l = record {
  runs : (rest : List ℕ) → Runs l.tables (l.text ++ rest) l.fn.place (take l.count l.ends) l.offset l.line l.row;
  count : l.count ≤ l.most;
  room : l.most ≤ length l.ends;
  within : l.offset ≤ length l.text;
  row : l.row + joined_width l.tables ≤ length l.entries;
  line : l.line ≤ l.offset + 1;
}

abbrev pub decreases-bytes : goal.decreases-bytes
decreases-bytes l = length l.text - l.offset
