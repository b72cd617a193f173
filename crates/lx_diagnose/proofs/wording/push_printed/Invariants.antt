use Rattle.std.proofs.Common.{◌≡◌, ◌++◌, take}
use Rattle.std.specs.List.{flat_map}
use Rattle.lx_diagnose.specs.Printed.{ArePrinted, escaped}
use Rattle.lx_diagnose.proofs.wording.push_printed.Given as goal

abbrev pub invariant-loop-byte : goal.invariant-loop-byte
invariant-loop-byte l = record {
  value : l.text.items ≡ l.fn.text.items ++ flat_map escaped (take l.byte-index l.bytes);
  printed : ArePrinted l.fn.text.items → ArePrinted l.text.items;
}
