use Rattle.lx_report.proofs.Telling.{extends_itself, extends_more}
use Rattle.lx_report.proofs.warnings.push_all.Goals as goal

pub loop-warning-init : goal.loop-warning-init
loop-warning-init c = extends_itself c.args.text.now.items

pub loop-warning-preserved : goal.loop-warning-preserved
loop-warning-preserved c = extends_more _ _ _ c.loop-warning.invariant c.in_ok-push_warning.ensures.extends
