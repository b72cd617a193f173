use Rattle.std.proofs.Common.{◌≡◌, ◌-◌, ◌++◌, List, ◌∷◌, take, sym, ◌∙◌, ap, subst, arith}
use Rattle.std.proofs.lemmas.List.{length-set}
use Rattle.lx_scan.specs.declared.ends.End.{End}
use Rattle.lx_scan.specs.Ends.{AreEnds, end_of, ends_from, items_of_ends, line_of, shift_end}
use Rattle.lx_scan.proofs.Giving.{placed_turn}
use Rattle.lx_scan.proofs.Runs.{rises}
use Rattle.lx_scan.proofs.list.place_items.Goals as goal

pub loop-end-preserved : goal.loop-end-preserved
loop-end-preserved c =
    let table = c.args.tables.now in
    let from = c.args.from in
    let loop = c.loop-end in
    let end : End = shift_end from.offset (from.line - 1) c.in-Some.end.now in
    let more : List End = ends_from from c.in-Some.more.now in
    let split : ends_from from loop.rest.now ≡ end ∷ more = ap (ends_from from) c.in-Some.ensures.cases.0 in
    let one_less = c.in-Some.ensures.cases.1 in
    let ends : AreEnds table loop.start (end ∷ more) = subst (λ (es : List End). AreEnds table loop.start es) split loop.invariant.ends in
    let few = loop.invariant.few in
    let room = loop.invariant.room in
    let enough = c.requires.room in
    let one = c.item_count-len.ensures.few in
    record {
      ends = ends.1;
      items = placed_turn table c.args.labels.now loop.room loop.len loop.start loop.line c.item_count-len.result end more _ c.requires.labels ends.0 (omega arith) c.item_count-len.ensures.value
          (subst (λ (es : List End). take loop.len loop.room ++ items_of_ends table loop.start loop.line es ≡ take c.args.at c.args.room.now ++ items_of_ends table from.offset from.line (ends_from from c.args.ends.now)) split loop.invariant.items);
      few = omega arith;
      room = length-set loop.room loop.len _ ∙ room;
      offset = ap (λ (es : List End). end_of loop.start es) (sym split) ∙ loop.invariant.offset;
      line = ap (λ (es : List End). line_of loop.line es) (sym split) ∙ loop.invariant.line;
    }

pub overflow_add-offset : goal.overflow_add-offset
overflow_add-offset c =
    let table = c.args.tables.now in
    let from = c.args.from in
    let loop = c.loop-end in
    let end : End = shift_end from.offset (from.line - 1) c.in-Some.end.now in
    let more : List End = ends_from from c.in-Some.more.now in
    let split : ends_from from loop.rest.now ≡ end ∷ more = ap (ends_from from) c.in-Some.ensures.cases.0 in
    let ends : AreEnds table loop.start (end ∷ more) = subst (λ (es : List End). AreEnds table loop.start es) split loop.invariant.ends in
    let rise = rises table end.offset more ends.1 in
    let last : end_of end.offset more ≡ end_of from.offset (ends_from from c.args.ends.now) = ap (λ (es : List End). end_of loop.start es) (sym split) ∙ loop.invariant.offset in
    let small = c.requires.end in
    omega (arith, rise, last, small)

pub overflow_add-line : goal.overflow_add-line
overflow_add-line c =
    let table = c.args.tables.now in
    let from = c.args.from in
    let loop = c.loop-end in
    let end : End = shift_end from.offset (from.line - 1) c.in-Some.end.now in
    let more : List End = ends_from from c.in-Some.more.now in
    let split : ends_from from loop.rest.now ≡ end ∷ more = ap (ends_from from) c.in-Some.ensures.cases.0 in
    let ends : AreEnds table loop.start (end ∷ more) = subst (λ (es : List End). AreEnds table loop.start es) split loop.invariant.ends in
    let rise = rises table end.offset more ends.1 in
    let last : end_of end.offset more ≡ end_of from.offset (ends_from from c.args.ends.now) = ap (λ (es : List End). end_of loop.start es) (sym split) ∙ loop.invariant.offset in
    let small = c.requires.end in
    let few = ends.0.line_few in
    omega (arith, rise, last, small, few)
