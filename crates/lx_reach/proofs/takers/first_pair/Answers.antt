use Rattle.std.proofs.Common.{refl}
use Rattle.lx_reach.proofs.Pairing.{begun}
use Rattle.lx_reach.proofs.takers.first_pair.Goals as goal

pub returns : goal.returns
returns c =
    begun c.args.alone.now.machine c.args.all.now.machine _ c.args.condition c.args.at_line_begin c.requires.all refl c.start.ensures.start c.start-2.ensures.start
    c.start.ensures.state c.start-2.ensures.state
