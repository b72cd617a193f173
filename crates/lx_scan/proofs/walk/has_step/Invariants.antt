use Rattle.std.proofs.Common.{◌≡◌, ◌<◌, ℕ, None}
use Rattle.lx_automaton.specs.Automata.{target_of}
use Rattle.lx_scan.proofs.walk.has_step.Given as goal

abbrev pub invariant-loop-byte : goal.invariant-loop-byte
invariant-loop-byte l = (byte : ℕ) → byte < l.byte → target_of l.tables.machine l.state.0 byte ≡ None
