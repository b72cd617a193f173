use Rattle.std.proofs.Common.{◌≡◌}
use Rattle.lx_flex.specs.RulesSections.{IsFurther}
use Rattle.lx_flex.specs.States.{left}
use Rattle.lx_flex.proofs.c_code.take_lines.Given as goal

abbrev pub invariant-loop : goal.invariant-loop
invariant-loop l = record { further : IsFurther (left l.fn.cursor) (left l.cursor); text : l.cursor.text.now ≡ l.fn.cursor.text.now }
