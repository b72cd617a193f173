use Rattle.std.proofs.Common.{◌-◌, length, refl, arith}
use Rattle.std.proofs.lemmas.Option.{slice_get_read}
use Rattle.lx_auto.proofs.sets.set_steps.untouched_count.Goals as goal

pub returns-then-last-bare-clause-bare : goal.returns-then-last-bare-clause-bare
returns-then-last-bare-clause-bare c = λ some.
    let parts = c.args.parts.now in
    let place = c.min-end.result - 1 in
    let few = c.requires.within in
    let low = c.min-end.ensures in
    let more = c.if-end-from.false in
    let last = c.index-parts-end.result in
    record {
      place = place;
      last = last;
      behind = omega arith;
      at = slice_get_read parts (length parts) place last refl (omega arith) c.index-parts-end.is;
      below = c.if-last-bare.true;
    }
