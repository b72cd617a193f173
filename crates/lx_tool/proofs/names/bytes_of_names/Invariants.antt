use Rattle.std.proofs.Common.{◌≡◌, map, take}
use Rattle.lx_tool.specs.Names.{name_bytes}
use Rattle.lx_tool.proofs.names.bytes_of_names.Given as goal

abbrev pub invariant-loop-text : goal.invariant-loop-text
invariant-loop-text l = map (λ name. name.items) l.names.items ≡ map name_bytes (take l.text-index (map (λ text. text.now) l.texts))
