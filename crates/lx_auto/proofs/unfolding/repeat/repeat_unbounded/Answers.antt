use Rattle.std.proofs.Common.{◌-◌, ap, sym, arith}
use Rattle.lx_auto.specs.NodeViews.{nodes_view}
use Rattle.lx_auto.specs.declared.unfolding.part.Part.{Part}
use Rattle.lx_auto.proofs.Copying.{unbounded-begin, unbounded-step, unbounded-end}
use Rattle.lx_auto.proofs.unfolding.repeat.repeat_unbounded.Goals as goal

pub loop-closed-init : goal.loop-closed-init
loop-closed-init c = λ base r e b.
    unbounded-begin r c.args.low c.args.nodes.now.items c.append_copies.new.nodes.items _ c.args.body.size base c.args.body _ c.in_ok-append_copies.ensures e (sym (ap (λ (p : Part). p.size) b)) b c.in_ok-behind.ensures

pub loop-closed-preserved : goal.loop-closed-preserved
loop-closed-preserved c = λ base r e b.
    unbounded-step r (c.args.low - 1) c.loop-closed._closed base (nodes_view c.loop-closed.nodes.items) _ c.args.body c.loop-closed.behind _ c.loop-closed-test.true b (c.loop-closed.invariant base r e b) c.in_ok-behind-2.ensures

pub returns : goal.returns
returns c = λ base r e b.
    unbounded-end r (c.args.low - 1) c.loop-closed._closed base (nodes_view c.loop-closed.nodes.items) c.loop-closed.behind (omega arith) (c.loop-closed.invariant base r e b)
