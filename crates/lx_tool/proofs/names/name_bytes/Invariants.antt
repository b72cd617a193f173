use Rattle.std.proofs.Common.{◌≡◌, ◌++◌, drop}
use Rattle.lx_tool.specs.Names.{bytes_after, name_bytes}
use Rattle.lx_tool.proofs.names.name_bytes.Given as goal

abbrev pub invariant-loop-i : goal.invariant-loop-i
invariant-loop-i l = l.bytes.items ++ bytes_after l.passed (drop l.i l.text) ≡ name_bytes l.text
