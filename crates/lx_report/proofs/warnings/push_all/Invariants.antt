use Rattle.lx_report.specs.Said.{Extends}
use Rattle.lx_report.proofs.warnings.push_all.Given as goal

abbrev pub invariant-loop-warning : goal.invariant-loop-warning
invariant-loop-warning l = Extends l.fn.text.items l.text.items
