use Rattle.std.proofs.Common.{◌≡◌, ◌+◌, drop}
use Rattle.std.specs.List.{prefix_len}
use Rattle.lx_flex.specs.RulesSections.{is_blank}
use Rattle.lx_flex.proofs.cursor.blank_run.Given as goal

abbrev pub invariant-loop-byte : goal.invariant-loop-byte
invariant-loop-byte l = record {
  count : l.count ≡ l.byte-index;
  run : prefix_len is_blank l.text ≡ l.byte-index + prefix_len is_blank (drop l.byte-index l.text);
}
