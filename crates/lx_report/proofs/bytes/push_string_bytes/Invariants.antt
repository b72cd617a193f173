use Rattle.std.proofs.Common.{◌≡◌, ◌++◌, take}
use Rattle.std.specs.List.{flat_map}
use Rattle.lx_report.specs.Bytes.{string_byte}
use Rattle.lx_report.proofs.bytes.push_string_bytes.Given as goal

abbrev pub invariant-loop-byte : goal.invariant-loop-byte
invariant-loop-byte l = l.text.items ≡ l.fn.text.items ++ flat_map string_byte (take l.byte-index l.bytes)
