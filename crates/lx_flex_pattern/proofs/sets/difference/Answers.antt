use Rattle.lx_flex_pattern.proofs.SetLemmas.{difference_is}
use Rattle.lx_flex_pattern.proofs.sets.difference.Goals as goal

pub returns : goal.returns
returns c = difference_is c.args.set.now c.complement.result c.union.result c.complement-2.result c.args.other.now c.complement.ensures.others c.union.ensures c.complement-2.ensures.others
