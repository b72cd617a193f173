use Rattle.std.proofs.Common.{ap, sym, arith}
use Rattle.lx_auto.specs.NodeViews.{nodes_view}
use Rattle.lx_auto.specs.declared.unfolding.part.Part.{Part}
use Rattle.lx_auto.proofs.Copying.{counted-begin, counted-step, counted-end}
use Rattle.lx_auto.proofs.unfolding.repeat.repeat_counted.Goals as goal

pub loop-closed-init : goal.loop-closed-init
loop-closed-init c = λ base r e b.
    counted-begin r c.args.low c.args.high c.args.nodes.now.items c.append_copies.new.nodes.items c.args.body.size base c.requires c.in_ok-append_copies.ensures e (sym (ap (λ (p : Part). p.size) b))

pub loop-closed-preserved : goal.loop-closed-preserved
loop-closed-preserved c = λ base r e b.
    counted-step r c.args.low c.args.high c.loop-closed.closed c.is_required.result base (nodes_view c.loop-closed.nodes.items) (nodes_view c.close_copy.new.nodes.items) c.args.body c.loop-closed.behind _ c.loop-closed-test.true c.is_required.ensures b (c.loop-closed.invariant base r e b) c.in_ok-behind.ensures

pub returns : goal.returns
returns c = λ base r e b.
    counted-end r c.args.low c.args.high c.loop-closed.closed base (nodes_view c.loop-closed.nodes.items) c.loop-closed.behind (omega arith) (c.loop-closed.invariant base r e b)
