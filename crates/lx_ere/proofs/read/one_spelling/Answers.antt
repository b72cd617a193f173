use Rattle.lx_ere.proofs.SpellingLemmas as spelling
use Rattle.lx_ere.proofs.read.one_spelling.Goals as goal

pub returns : goal.returns
returns c = spelling.one_spelling
