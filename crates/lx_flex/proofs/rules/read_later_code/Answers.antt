use Rattle.lx_flex.proofs.Advancing.{skips_further}
use Rattle.lx_flex.proofs.rules.read_later_code.Goals as goal

pub returns-then-is_some-clause-code : goal.returns-then-is_some-clause-code
returns-then-is_some-clause-code c = λ _. skips_further _ 2 _ _ _ _ c.skip_blanks.ensures.left c.advance.ensures.left c.in_ok-code.ensures
