use Rattle.lx_report.proofs.Telling.{extends_itself, extends_more}
use Rattle.lx_report.proofs.saying.push_further.Goals as goal

pub loop-entry-init : goal.loop-entry-init
loop-entry-init c = extends_itself c.args.text.now.items

pub loop-entry-preserved : goal.loop-entry-preserved
loop-entry-preserved c = extends_more _ _ _ c.loop-entry.invariant c.in_ok-push_entry.ensures
