use Rattle.lx_report.specs.Said.{Extends}
use Rattle.lx_report.proofs.saying.push_further.Given as goal

abbrev pub invariant-loop-entry : goal.invariant-loop-entry
invariant-loop-entry l = Extends l.fn.text.items l.text.items
