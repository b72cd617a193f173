use Rattle.lx_lex.proofs.Walking.{find_rules}
use Rattle.lx_lex.proofs.laws.arrays_find_rules.Goals as goal

pub returns : goal.returns
returns c = find_rules
