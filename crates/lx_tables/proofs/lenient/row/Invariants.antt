use Rattle.std.proofs.Common.{◌≡◌, ◌≤◌, map}
use Rattle.lx_automaton.specs.EncodedOptions.{decoded_option}
use Rattle.lx_tables.specs.Readers.{onto, read_row}
use Rattle.lx_tables.proofs.lenient.row.Given as goal

abbrev pub invariant-loop-left : goal.invariant-loop-left
invariant-loop-left l = record {
  room : l.from ≤ l.width;
  same : onto (map decoded_option l.encoded_options.items) (read_row l.version l.width l.left l.from l.rest) ≡ onto (map decoded_option l.fn.encoded_options.items) (read_row l.version l.width l.width 0 l.text);
}

abbrev pub decreases-loop-left : goal.decreases-loop-left
decreases-loop-left l = l.left
