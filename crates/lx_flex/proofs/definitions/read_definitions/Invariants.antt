use Rattle.std.proofs.Common.{◌≡◌, ◌<◌, vec_len}
use Rattle.lx_flex.proofs.definitions.read_definitions.Given as goal

abbrev pub invariant-loop : goal.invariant-loop
invariant-loop l = record {
  few : vec_len l.declared.conditions < 65536;
  text : l.cursor.text.now ≡ l.fn.cursor.text.now;
}
