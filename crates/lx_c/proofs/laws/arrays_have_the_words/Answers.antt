use Rattle.lx_c.proofs.Reading.{have_the_words}
use Rattle.lx_c.proofs.laws.arrays_have_the_words.Goals as goal

pub returns : goal.returns
returns c = have_the_words
