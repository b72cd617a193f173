use Rattle.std.proofs.Common.{◌∙◌}
use Rattle.lx_ere.proofs.ByteLemmas.{insert_is}
use Rattle.lx_ere.proofs.set.ByteSet.insert.Goals as goal

pub returns : goal.returns
returns c = λ test e. insert_is c.self.inside.words c.args.byte c.self.told c.ranges.byte.fits test (c.self.view_is ∙ e)
