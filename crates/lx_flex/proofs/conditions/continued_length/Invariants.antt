use Rattle.std.proofs.Common.{◌≡◌, ◌+◌, drop}
use Rattle.std.specs.List.{prefix_len}
use Rattle.lx_flex.specs.ConditionLists.{continues_name}
use Rattle.lx_flex.proofs.conditions.continued_length.Given as goal

abbrev pub invariant-loop-byte : goal.invariant-loop-byte
invariant-loop-byte l = record {
  count : l.count ≡ l.byte-index;
  run : prefix_len continues_name l.text ≡ l.byte-index + prefix_len continues_name (drop l.byte-index l.text);
}
