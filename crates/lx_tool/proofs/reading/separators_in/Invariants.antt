use Rattle.std.proofs.Common.{◌≡◌, ◌+◌, ◌≤◌, drop}
use Rattle.lx_forms.specs.NameLists.{separators}
use Rattle.lx_tool.proofs.reading.separators_in.Given as goal

abbrev pub invariant-loop-byte : goal.invariant-loop-byte
invariant-loop-byte l = record {
  rest : l.count + separators l.separator (drop l.byte-index l.bytes) ≡ separators l.separator l.bytes;
  few : l.count ≤ l.byte-index;
}
