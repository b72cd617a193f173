use Rattle.std.proofs.Common.{◌≤◌, List, arith, length, length-drop, subst}
use Rattle.lx_scan.specs.declared.item.Item.{Item}
use Rattle.lx_line.proofs.Lined.{rest_all, texts_more}
use Rattle.lx_line.proofs.lines.push_many.Goals as goal

pub loop-done-preserved : goal.loop-done-preserved
loop-done-preserved g c =
    let items = c.args.items.now in
    let done = c.loop-done.done in
    let count = c.in_ok-done.field-0 in
    record {
      within = (let few = subst (λ (xs : List Item). count ≤ length xs) (rest_all items done) c.in_ok-done.ensures.few in omega (arith, length-drop done items));
      prefixes = c.push_some.ensures.prefixes;
      lines = texts_more ((g.L.LineStyle.style c.args.style.now).line c.args.plan.now c.args.file) c.args.block.now.items c.loop-done.block.items c.push_some.new.block.items items done count c.loop-done.invariant.lines c.in_ok-done.ensures.lines;
    }
