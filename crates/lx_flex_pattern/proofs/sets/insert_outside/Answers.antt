use Rattle.lx_flex_pattern.proofs.SetLemmas.{with_outside}
use Rattle.lx_flex_pattern.proofs.sets.insert_outside.Goals as goal

pub returns : goal.returns
returns c = λ test e.
    with_outside c.args.set c.complement.result c.union.result c.args.ranges.now test e (c.complement.ensures.tested _ (c.insert_ranges.ensures _ c.empty-inside.ensures)) c.union.ensures
