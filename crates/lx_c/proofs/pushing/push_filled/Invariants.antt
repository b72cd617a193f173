use Rattle.std.proofs.Common.{◌≡◌, ◌++◌, take}
use Rattle.std.specs.List.{flat_map}
use Rattle.lx_c.specs.Templates.{filled_byte}
use Rattle.lx_c.proofs.pushing.push_filled.Given as goal

abbrev pub invariant-loop-byte : goal.invariant-loop-byte
invariant-loop-byte l = l.text.items ≡ l.fn.text.items ++ flat_map (filled_byte l.options.prefix) (take l.byte-index l.template)
