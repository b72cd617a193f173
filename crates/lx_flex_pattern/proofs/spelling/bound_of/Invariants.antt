use Rattle.std.proofs.Common.{◌≡◌, ◌≤◌, drop}
use Rattle.lx_ere.specs.Escapes.{number_of, number_behind}
use Rattle.lx_flex_pattern.proofs.spelling.bound_of.Given as goal

abbrev pub invariant-loop-digit : goal.invariant-loop-digit
invariant-loop-digit l = record {
  fits : l.value ≤ 16383;
  counted : number_behind 10 l.value (drop l.digit-index l.digits) ≡ number_of 10 l.digits;
}
