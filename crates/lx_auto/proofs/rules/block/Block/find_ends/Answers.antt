use Rattle.std.proofs.Common.{◌∙◌, ap}
use Rattle.lx_auto.specs.NodeViews.{nodes_view}
use Rattle.lx_auto.proofs.BlockRead.{no_ends, block_ends, last_end}
use Rattle.lx_auto.proofs.rules.block.Block.find_ends.Goals as goal

pub returns-then-not-is_touched : goal.returns-then-not-is_touched
returns-then-not-is_touched c = λ e is.
    no_ends c.args.marks.now c.args.self.now e c.new.result.items is c.new.ensures.items (c.is_touched.ensures c.if-not-is_touched.true)

pub returns-then-self : goal.returns-then-self
returns-then-self c = λ e is. last_end c.args.marks.now c.args.self.now e c.in_ok-last.last.items is c.if-self.true c.in_ok-last.ensures

pub returns : goal.returns
returns c = λ e is.
    block_ends c.args.marks.now c.args.self.now e (nodes_view c.deref.result.now) c.deref-2.result.now c.in_ok-ends.ends.items is
    (ap nodes_view c.deref.ensures.value ∙ is.nodes) (c.deref-2.ensures.value ∙ is.nulls) c.in_ok-ends.ensures
