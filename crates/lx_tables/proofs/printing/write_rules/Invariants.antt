use Rattle.std.proofs.Common.{take}
use Rattle.std.specs.List.{flat_map}
use Rattle.lx_tables.specs.Texts.{rule_line}
use Rattle.lx_tables.specs.Output.{Wrote}
use Rattle.lx_tables.proofs.printing.write_rules.Given as goal

abbrev pub invariant-loop-rule : goal.invariant-loop-rule
invariant-loop-rule g l = Wrote (g.W.Write.contents l.fn.out) (g.W.Write.contents l.out) (flat_map rule_line (take l.rule l.tables.rules))
