use Rattle.std.proofs.Common.{◌≡◌, ◌<◌, length, take}
use Rattle.lx_automaton.proofs.reordering.classes_of.Given as goal

abbrev pub invariant-loop-byte : goal.invariant-loop-byte
invariant-loop-byte l = record {
  read : l.classes.items ≡ take l.byte l.automaton.classes;
  bytes : 0 < l.byte → length l.automaton.classes ≡ 256;
}
