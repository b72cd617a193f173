use Rattle.std.proofs.Common.{take}
use Rattle.std.specs.List.{flat_map}
use Rattle.lx_tables.specs.Texts.{start_line}
use Rattle.lx_tables.specs.Output.{Wrote}
use Rattle.lx_tables.proofs.printing.write_starts.Given as goal

abbrev pub invariant-loop-condition : goal.invariant-loop-condition
invariant-loop-condition g l = Wrote (g.W.Write.contents l.fn.out) (g.W.Write.contents l.out) (flat_map start_line (take l.condition l.tables.machine.starts))
