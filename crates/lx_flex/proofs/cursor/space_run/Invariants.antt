use Rattle.std.proofs.Common.{◌≡◌, ◌+◌, drop}
use Rattle.std.specs.List.{prefix_len}
use Rattle.std.specs.Char.{is_ascii_whitespace}
use Rattle.lx_flex.proofs.cursor.space_run.Given as goal

abbrev pub invariant-loop-byte : goal.invariant-loop-byte
invariant-loop-byte l = record {
  count : l.count ≡ l.byte-index;
  run : prefix_len is_ascii_whitespace l.text ≡ l.byte-index + prefix_len is_ascii_whitespace (drop l.byte-index l.text);
}
