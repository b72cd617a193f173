use Rattle.std.proofs.Common.{take}
use Rattle.std.specs.List.{flat_map}
use Rattle.lx_tables.specs.Texts.{kind_line}
use Rattle.lx_tables.specs.Output.{Wrote}
use Rattle.lx_tables.proofs.printing.write_kinds.Given as goal

abbrev pub invariant-loop-number : goal.invariant-loop-number
invariant-loop-number g l = Wrote (g.W.Write.contents l.fn.out) (g.W.Write.contents l.out) (flat_map kind_line (take l.number l.tables.kinds))
