use Rattle.std.proofs.Common.{◌≡◌, length}
use Rattle.lx_automaton.specs.Automata.{state_count}
use Rattle.lx_reach.proofs.ahead.far_ahead.Given as goal

abbrev pub invariant-loop-condition : goal.invariant-loop-condition
invariant-loop-condition l = length l.seen.items ≡ state_count l.tables.machine
