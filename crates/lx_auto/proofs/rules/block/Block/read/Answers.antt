use Rattle.std.proofs.Common.{sym, ◌∙◌, ap}
use Rattle.lx_auto.specs.NodeViews.{nodes_view}
use Rattle.lx_auto.proofs.BlockRead.{nil_of, block_stays, block_reads, sequence_block_reads}
use Rattle.lx_auto.proofs.rules.block.Block.read.Goals as goal

pub returns-then-is_empty-clause-set : goal.returns-then-is_empty-clause-set
returns-then-is_empty-clause-set c = λ e is has clear.
    block_stays c.args.marks.now c.args.self.now e c.args.ends.now c.args.reads.now.items c.args.entered is has
    (nil_of c.args.ends.now (sym c.is_empty.ensures ∙ c.if-is_empty.true)) c.if-not-entered.true clear

pub returns-then-self-clause-set : goal.returns-then-self-clause-set
returns-then-self-clause-set c = λ e is has clear.
    c.read_sequence.ensures.set ∙ sequence_block_reads c.args.marks.now c.args.self.now e c.args.reads.now.items c.args.entered is c.if-self.true

pub returns-clause-set : goal.returns-clause-set
returns-clause-set c = λ e is has clear.
    c.in_ok-mark_reads.ensures.set
    ∙ block_reads c.args.marks.now c.args.self.now e (nodes_view c.as_slice-nodes.result.now) c.as_slice-nulls.result.now c.args.ends.now c.args.reads.now.items
    c.args.entered is (ap nodes_view c.as_slice-nodes.ensures.value ∙ is.nodes) (c.as_slice-nulls.ensures.value ∙ is.nulls) has c.if-self.false
