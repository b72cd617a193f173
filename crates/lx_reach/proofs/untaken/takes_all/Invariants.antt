use Rattle.std.proofs.Common.{◌≢◌, ◌<◌, ℕ, [], ◌∷◌, None}
use Rattle.lx_automaton.specs.Automata.{answer}
use Rattle.lx_reach.proofs.untaken.takes_all.Given as goal

abbrev pub invariant-loop-byte : goal.invariant-loop-byte
invariant-loop-byte l = (b : ℕ) → b < l.byte → answer l.tables.machine l.condition l.at_line_begin (b ∷ []) ≢ None
