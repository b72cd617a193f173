use Rattle.std.proofs.Common.{◌≡◌, ◌+◌, sym, subst, arith}
use Rattle.lx_minimize.specs.Partitions.{block_count}
use Rattle.lx_minimize.specs.BlockBounds.{AreBounds}
use Rattle.lx_minimize.proofs.NewBlocks.{bounds_after}
use Rattle.lx_minimize.proofs.Splits.{blocks_at_most}
use Rattle.lx_minimize.proofs.worklist.split_touched.Goals as goal

pub overflow_cast-fresh : goal.overflow_cast-fresh
overflow_cast-fresh c =
    let s = c.requires.complete.small in
    let long = c.args.p.now.representatives.ok.0 in
    omega (arith, blocks_at_most c.args.m.now c.args.p.now c.requires.sound)

pub returns-clause-splits_left : goal.returns-clause-splits_left
returns-clause-splits_left c =
    let e : block_count c.split.new.p ≡ block_count c.args.p.now + 1 = rw c.in-Some.is at c.in_ok-range.ensures.count in
    let f = c.in_ok-add_block.ensures.pending in
    let g = c.take_hits-hits.ensures.pending in
    omega (arith, blocks_at_most c.args.m.now c.split.new.p c.in_ok-range.ensures.sound)

pub returns-clause-bounds : goal.returns-clause-bounds
returns-clause-bounds c =
    let sound = c.requires.sound in
    let long = sound.long in
    let kept = c.take_hits-hits.ensures.bounds in
    let before = subst (λ bounds. AreBounds c.args.p.now bounds) (sym kept) c.requires.bounds in
    bounds_after c.args.p.now c.split.new.p c.take_hits-hits.new.worklist.bounds c.add_block.new.worklist.bounds c.in-Some.range before
    (rw c.in-Some.is at c.in_ok-range.ensures.divided) (rw c.in-Some.is at c.in_ok-range.ensures.count) (λ s h. sound.below s (omega arith))
    c.in_ok-add_block.ensures.lows c.in_ok-add_block.ensures.highs
