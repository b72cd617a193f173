use Rattle.lx_minimize.proofs.Lanes.{first_behind, none_before}
use Rattle.lx_minimize.proofs.members.lanes_before.Goals as goal

pub returns-clause-before : goal.returns-clause-before
returns-clause-before c = none_before c.args.blocks.now c.args.from c.args.number c.requires c.min.result c.min.ensures

pub returns-clause-found : goal.returns-clause-found
returns-clause-found c = first_behind c.args.blocks.now c.args.from c.args.number c.requires c.min.result c.min.ensures
