use Rattle.std.proofs.Common.{◌≡◌, ◌+◌, ◌-◌, ℕ, ap, arith, drop, sym, take}
use Rattle.std.specs.List.{flat_map}
use Rattle.lx_line.proofs.Places.{Placed-is}
use Rattle.lx_line.proofs.Unescaped.{text_more}
use Rattle.lx_line.proofs.texts.place_long.Goals as goal

pub loop-done-preserved : goal.loop-done-preserved
loop-done-preserved g c =
    record {
      within = omega arith;
      short = omega arith;
      placed = text_more g.E.Escape.shown c.args.bytes.now c.args.start c.loop-done.done c.place_part-part.result.count c.loop-done.invariant.placed c.place_part-part.ensures.placed;
    }

pub returns-then-left-plain-clause-placed : goal.returns-then-left-plain-clause-placed
returns-then-left-plain-clause-placed g c =
    let done = c.loop-done.done in
    let left = c.args.len - done in
    let whole : done + left ≡ c.args.len = let test = c.loop-done-test.true in omega arith in
    let last = Placed-is c.place_16.ensures (sym (c.plain_16-plain.ensures.plain left c.if-left-plain.true)) in
    Placed-is (text_more g.E.Escape.shown c.args.bytes.now c.args.start done left c.loop-done.invariant.placed last) (ap (λ (k : ℕ). flat_map g.E.Escape.shown (take k (drop c.args.start c.args.bytes.now))) whole)
