use Rattle.std.proofs.Common.{◌≡◌, length}
use Rattle.lx_automaton.specs.Automata.{state_count}
use Rattle.lx_reach.proofs.ahead.look_at_start.Given as goal

abbrev pub invariant-loop-byte : goal.invariant-loop-byte
invariant-loop-byte l = length l.seen.items ≡ state_count l.tables.machine
