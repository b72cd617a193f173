use Rattle.lx_rules.specs.views.Specs.{spec_view}
use Rattle.lx_plain.proofs.Best.{Best}
use Rattle.lx_plain.proofs.choice.choose.Given as goal

abbrev pub invariant-loop-i : goal.invariant-loop-i
invariant-loop-i l = Best (spec_view l.spec) l.condition l.begin l.text l.i l.best_reach l.best
