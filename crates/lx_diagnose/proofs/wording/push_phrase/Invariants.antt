use Rattle.std.proofs.Common.{◌≡◌, ◌++◌, take}
use Rattle.std.specs.List.{flat_map}
use Rattle.lx_diagnose.specs.Printed.{ArePrinted, filling}
use Rattle.lx_diagnose.proofs.wording.push_phrase.Given as goal

abbrev pub invariant-loop-byte : goal.invariant-loop-byte
invariant-loop-byte l = record {
  value : l.text.items ≡ l.fn.text.items ++ flat_map (filling l.fillings.name.now l.fillings.other.now l.fillings.line) (take l.byte-index l.phrase);
  printed : ArePrinted l.fn.text.items → ArePrinted l.text.items;
}
