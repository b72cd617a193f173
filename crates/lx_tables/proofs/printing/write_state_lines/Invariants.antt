use Rattle.std.proofs.Common.{take}
use Rattle.std.specs.List.{flat_map, range_with_len}
use Rattle.lx_automaton.specs.Automata.{state_count}
use Rattle.lx_tables.specs.Lines.{state_line}
use Rattle.lx_tables.specs.Output.{Wrote}
use Rattle.lx_tables.proofs.printing.write_state_lines.Given as goal

abbrev pub invariant-loop-state : goal.invariant-loop-state
invariant-loop-state g l = Wrote (g.W.Write.contents l.fn.out) (g.W.Write.contents l.out) (flat_map (λ s. state_line l.version l.tables.machine s) (take l.state (range_with_len 0 (state_count l.tables.machine))))
