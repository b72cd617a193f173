use Rattle.std.proofs.Common.{◌≡◌, ◌<◌, ◌++◌, [], ℕ, List, drop}
use Rattle.std.specs.Prelude.{IsTrue}
use Rattle.lx_automaton.specs.Automata.{state_count}
use Rattle.lx_scan.specs.Failing.{IsFailed}
use Rattle.lx_scan.specs.Streams.{IsOpenMemory}
use Rattle.lx_scan.proofs.walk.Walk.remember.Given as goal

abbrev pub invariant-loop-at : goal.invariant-loop-at
invariant-loop-at l = record {
  state : l.state.0 < state_count l.tables.machine;
  failed : (rest : List ℕ) → (IsTrue l.has_ended → rest ≡ []) → IsFailed l.tables.machine (drop l.at (l.bytes ++ rest)) l.state.0;
  memory : IsOpenMemory l.tables l.bytes l.has_ended l.memory;
}
