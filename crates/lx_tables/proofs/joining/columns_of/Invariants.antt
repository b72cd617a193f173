use Rattle.std.proofs.Common.{◌≡◌, ◌<◌, ℕ, length, slice_index}
use Rattle.lx_tables.specs.Joined.{column_of}
use Rattle.lx_tables.proofs.joining.columns_of.Given as goal

abbrev pub invariant-loop-byte : goal.invariant-loop-byte
invariant-loop-byte l = record {
  long : length l.columns.items ≡ l.byte;
  each : (b : ℕ) → b < l.byte → slice_index l.columns.items b ≡ column_of l.tables b;
}
