use Rattle.std.proofs.Common.{◌≡◌, ◌<◌, ◌≤◌, drop}
use Rattle.lx_ere.specs.Escapes.{number_of, number_behind}
use Rattle.lx_ere.proofs.escape.byte_of.Given as goal

abbrev pub invariant-loop-digit : goal.invariant-loop-digit
invariant-loop-digit l = record {
  small : l.value < 256 → number_behind l.base l.value (drop l.digit-index l.digits) ≡ number_of l.base l.digits;
  large : 256 ≤ l.value → 256 ≤ number_of l.base l.digits;
}
