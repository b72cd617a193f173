use Rattle.lx_flex.proofs.Advancing.{further_after, later_by}
use Rattle.lx_flex.proofs.rules.open_scope.Goals as goal

pub returns-in_ok-_code-clause-further : goal.returns-in_ok-_code-clause-further
returns-in_ok-_code-clause-further c = further_after _ _ _ (later_by 1 _ _ c.advance.ensures.left) c.in_ok-_code.ensures
