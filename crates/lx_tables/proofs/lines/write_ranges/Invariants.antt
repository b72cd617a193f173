use Rattle.std.proofs.Common.{◌<◌, ◌≤◌, ◌-◌, drop, map}
use Rattle.lx_automaton.specs.EncodedOptions.{decoded_option}
use Rattle.lx_tables.specs.Lines.{value_of}
use Rattle.lx_tables.specs.Texts.{all_bytes, ranges_from, byte_ranges}
use Rattle.lx_tables.proofs.Written.{WroteBefore}
use Rattle.lx_tables.proofs.lines.write_ranges.Given as goal

abbrev pub invariant-loop-at : goal.invariant-loop-at
invariant-loop-at g l = record {
  from : l.low < l.at;
  within : l.at ≤ 256;
  wrote : WroteBefore (g.W.Write.contents l.fn.out) (g.W.Write.contents l.out) (byte_ranges (value_of l.tables.machine l.values))
      (ranges_from l.low (l.at - 1) (decoded_option l.value) (drop l.at (map (value_of l.tables.machine l.values) all_bytes)));
}

abbrev pub decreases-loop-at : goal.decreases-loop-at
decreases-loop-at g l = 256 - l.at
