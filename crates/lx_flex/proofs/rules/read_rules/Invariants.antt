use Rattle.std.proofs.Common.{length}
use Rattle.lx_flex.specs.States.{IfNoFault, left, names_of, state_of}
use Rattle.lx_flex.proofs.Progress.{IsReachedIn}
use Rattle.lx_flex.proofs.rules.read_rules.Given as goal

abbrev pub invariant-loop : goal.invariant-loop
invariant-loop l =
    IfNoFault l.fn.reports.fatal l.reports.fatal (IsReachedIn l.counter (length l.fn.cursor.text.now) (names_of l.declared) (left l.fn.cursor) (left l.cursor) (state_of l.rules))
