use Rattle.lx_lex.proofs.AllRules.{find_all_rules}
use Rattle.lx_lex.proofs.laws.arrays_find_all_rules.Goals as goal

pub returns : goal.returns
returns c = λ spec m lists h of few small. find_all_rules spec m lists h of few small
