use Rattle.lx_tool.proofs.Planned.{by_rules}
use Rattle.lx_tool.proofs.planning.listings_are_by_rules.Goals as goal

pub returns : goal.returns
returns c = λ text table inputs old new is of bytes lists. by_rules text table inputs old new (record { by_rules = c.items_are_by_rules.ensures }) is of bytes lists
