use Rattle.std.proofs.Common.{refl, add-one}
use Rattle.std.proofs.lemmas.List.{take_all}
use Rattle.lx_minimize.proofs.Containing.{adds_push, adds_skip}
use Rattle.lx_minimize.proofs.candidates.add_below.Goals as goal
use Rattle.lx_minimize.proofs.candidates.add_below.Goals.{then-states-i+in_ok-push, else-states-i}

pub loop-i-preserved : goal.loop-i-preserved
loop-i-preserved c = rw (add-one c.loop-i.i) (elim c.if-states-i.branch [
  | then-states-i+in_ok-push w ↦ rw (w.all-is, w.in_ok-push.ensures.items) (adds_push c.args.states.now c.args.all.now.items c.loop-i.all.items c.loop-i.i c.args.count _ c.loop-i.invariant refl w.if-states-i.true)
  | else-states-i w ↦ rw w.all-is (adds_skip c.args.states.now c.args.all.now.items c.loop-i.all.items c.loop-i.i c.args.count c.loop-i.invariant w.if-states-i.false)
])

pub returns : goal.returns
returns c = rw (← take_all c.loop-i.i c.args.states.now c.loop-i-test.false) c.loop-i.invariant
