use Rattle.std.proofs.Common.{◌≡◌, ◌+◌, drop}
use Rattle.std.specs.List.{prefix_len}
use Rattle.lx_flex.specs.RulesSections.{is_in_line}
use Rattle.lx_flex.proofs.cursor.line_length.Given as goal

abbrev pub invariant-loop-byte : goal.invariant-loop-byte
invariant-loop-byte l = record {
  count : l.count ≡ l.byte-index;
  run : prefix_len is_in_line l.text ≡ l.byte-index + prefix_len is_in_line (drop l.byte-index l.text);
}
