use Rattle.lx_reach.proofs.ByRules.{by_one, by_some}
use Rattle.lx_reach.proofs.ruling.chosen_is_by_rules.Goals as goal

pub returns-clause-one : goal.returns-clause-one
returns-clause-one c = by_one c.choice_is_by_rules.ensures c.one_choice.ensures

pub returns-clause-some : goal.returns-clause-some
returns-clause-some c = by_some c.choice_is_by_rules.ensures c.one_choice.ensures
