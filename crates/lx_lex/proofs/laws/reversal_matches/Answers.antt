use Rattle.lx_lex.proofs.Reversal.{turned, turned-back}
use Rattle.lx_lex.proofs.laws.reversal_matches.Goals as goal

pub returns : goal.returns
returns c = λ tree text. (turned-back tree text, turned tree text)
