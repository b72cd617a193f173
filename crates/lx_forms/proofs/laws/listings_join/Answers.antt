use Rattle.lx_forms.proofs.Joining.{joined_is}
use Rattle.lx_forms.proofs.laws.listings_join.Goals as goal

pub returns : goal.returns
returns c = joined_is
