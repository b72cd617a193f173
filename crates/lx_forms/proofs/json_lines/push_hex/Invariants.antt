use Rattle.std.proofs.Common.{◌≡◌, ◌++◌, take}
use Rattle.std.specs.List.{flat_map}
use Rattle.lx_forms.specs.JsonLines.{hex_pair}
use Rattle.lx_forms.proofs.json_lines.push_hex.Given as goal

abbrev pub invariant-loop-byte : goal.invariant-loop-byte
invariant-loop-byte l = l.block.items ≡ l.fn.block.items ++ flat_map hex_pair (take l.byte-index l.bytes)
