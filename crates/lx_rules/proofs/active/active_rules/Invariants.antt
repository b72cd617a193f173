use Rattle.lx_rules.specs.views.Specs.{spec_view}
use Rattle.lx_rules.specs.Starts.{AreActiveBelow}
use Rattle.lx_rules.proofs.active.active_rules.Given as goal

abbrev pub invariant-loop-i : goal.invariant-loop-i
invariant-loop-i l = AreActiveBelow (spec_view l.spec) l.condition l.begin l.active.items l.i
