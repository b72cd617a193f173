use Rattle.lx_forms.proofs.KindWords.{all_have_kinds, lines_by_words, selected_by_words}
use Rattle.lx_forms.proofs.laws.words_select_by_kind.Goals as goal

pub returns-clause-items : goal.returns-clause-items
returns-clause-items c = selected_by_words

pub returns-clause-all : goal.returns-clause-all
returns-clause-all c = all_have_kinds

pub returns-clause-lines : goal.returns-clause-lines
returns-clause-lines c = lines_by_words
