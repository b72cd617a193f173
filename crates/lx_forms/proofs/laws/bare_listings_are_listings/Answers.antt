use Rattle.lx_forms.proofs.Bare.{bare_is}
use Rattle.lx_forms.proofs.laws.bare_listings_are_listings.Goals as goal

pub returns : goal.returns
returns c = bare_is
