use Rattle.std.proofs.Common.{◌<◌}
use Rattle.lx_automaton.specs.Automata.{state_count}
use Rattle.lx_reach.proofs.ahead.never_accepts.Given as goal

abbrev pub invariant-loop-count : goal.invariant-loop-count
invariant-loop-count l = l.state.0 < state_count l.tables.machine
