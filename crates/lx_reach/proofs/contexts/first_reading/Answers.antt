use Rattle.lx_reach.proofs.Parting.{begun}
use Rattle.lx_reach.proofs.contexts.first_reading.Goals as goal

pub returns : goal.returns
returns c =
    begun c.args.tables.now.machine c.args.parts c.start.result.0 c.start-2.result.0 c.args.context c.start.ensures.start c.start-2.ensures.start c.start.ensures.state c.start-2.ensures.state
    c.requires.context c.requires.state
