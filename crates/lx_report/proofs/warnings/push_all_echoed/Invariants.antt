use Rattle.lx_report.specs.Said.{Extends}
use Rattle.lx_report.proofs.warnings.push_all_echoed.Given as goal

abbrev pub invariant-loop-condition : goal.invariant-loop-condition
invariant-loop-condition l = Extends l.fn.text.items l.text.items
