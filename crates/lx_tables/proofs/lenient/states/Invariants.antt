use Rattle.std.proofs.Common.{◌≡◌, ◌-◌, map}
use Rattle.lx_automaton.specs.EncodedOptions.{decoded_option}
use Rattle.lx_tables.specs.Readers.{read_lines, read_states}
use Rattle.lx_tables.proofs.Onto.{lines_onto}
use Rattle.lx_tables.proofs.lenient.states.Given as goal

abbrev pub invariant-loop : goal.invariant-loop
invariant-loop l = lines_onto (map decoded_option l.accepted.items) (map decoded_option l.targets.items) (read_lines l.version l.width (l.many - l.counter) l.rest) ≡ read_states l.version l.width l.text
