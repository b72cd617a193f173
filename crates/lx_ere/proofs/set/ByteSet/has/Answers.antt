use Rattle.lx_ere.proofs.ByteLemmas.{has_is}
use Rattle.lx_ere.proofs.set.ByteSet.has.Goals as goal

pub returns : goal.returns
returns c = rw (← c.self.view_is) (has_is c.self.inside.words c.args.byte c.ranges.byte.fits)
