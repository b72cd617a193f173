use Rattle.std.proofs.Common.{◌≡◌, ◌*◌, ◌≤◌, drop, length}
use Rattle.std.specs.List.{flat_map, range_with_len}
use Rattle.lx_automaton.specs.Automata.{class_target}
use Rattle.lx_tables.specs.Texts.{entry_text}
use Rattle.lx_tables.proofs.lines.place_entries.Given as goal

abbrev pub invariant-classes : goal.invariant-classes
invariant-classes l = record {
  room : l.class * 10 ≤ l.begin;
  within : l.begin ≤ length l.row;
  long : length l.row ≡ 2560;
  few : l.class ≤ l.tables.machine.width;
  placed : drop l.begin l.row ≡ flat_map (λ class. entry_text class (class_target l.tables.machine l.state class)) (drop l.class (range_with_len 0 l.tables.machine.width));
}

abbrev pub decreases-classes : goal.decreases-classes
decreases-classes l = l.class
