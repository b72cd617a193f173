use Rattle.std.proofs.Common.{◌≡◌, ◌+◌, ◌<◌, suc, length}
use Rattle.lx_flex.proofs.Advancing.{SkipsCode}
use Rattle.lx_flex.specs.States.{left, state_of}
use Rattle.lx_flex.proofs.rules.skip_code.Given as goal

abbrev pub invariant-loop : goal.invariant-loop
invariant-loop l = record {
  skips : SkipsCode (left l.fn.cursor) (left l.cursor);
  same : state_of l.rules ≡ state_of l.fn.rules;
  turns : l.counter + length (left l.cursor) < suc (length l.fn.cursor.text.now);
}
