use Rattle.std.proofs.Common.{◌≡◌, ◌++◌, take}
use Rattle.std.specs.List.{flat_map}
use Rattle.lx_report.specs.Bytes.{uri_byte}
use Rattle.lx_report.proofs.bytes.push_uri.Given as goal

abbrev pub invariant-loop-byte : goal.invariant-loop-byte
invariant-loop-byte l = l.text.items ≡ l.fn.text.items ++ flat_map uri_byte (take l.byte-index l.name)
