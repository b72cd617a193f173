use Rattle.std.proofs.Common.{◌+◌, ◌<◌, length, refl, sym, subst}
use Rattle.std.proofs.lemmas.Option.{slice_get_read}
use Rattle.lx_auto.specs.Blocks.{HaveEnds}
use Rattle.lx_auto.proofs.BlockRead.{ends_more}
use Rattle.lx_auto.proofs.rules.block_steps.find_all_ends.Goals as goal

pub loop-i-preserved : goal.loop-i-preserved
loop-i-preserved c =
    let marks = c.args.marks.now in
    let all = c.args.blocks.now in
    let i = c.loop-i.i in
    let block = c.index-blocks-i.result in
    let inside : i < length all = c.loop-i-test.true in
    let at = slice_get_read all (length all) i block refl inside c.index-blocks-i.is in
    subst (λ l. HaveEnds marks all l (i + 1)) (sym c.in_ok-push.ensures.items)
    (ends_more marks all c.loop-i.ends.items i block c.in_ok-find_ends.field-0 c.loop-i.invariant at (λ e is. c.in_ok-find_ends.ensures e is))
