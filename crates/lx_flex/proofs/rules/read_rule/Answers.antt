use Rattle.lx_flex.proofs.Advancing.{further_after}
use Rattle.lx_flex.proofs.rules.read_rule.Goals as goal

pub returns-in_default-clause-further : goal.returns-in_default-clause-further
returns-in_default-clause-further c = further_after _ _ _ c.in_ok-start.ensures.later c.in_ok-action.ensures

pub returns-clause-further : goal.returns-clause-further
returns-clause-further c = further_after _ _ _ c.in_ok-start.ensures.later c.in_ok-action.ensures
