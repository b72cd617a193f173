use Rattle.lx_automaton.specs.Automata.{answer}
use Rattle.lx_automaton.proofs.ListAnswers.{first_answer}
use Rattle.lx_automaton.proofs.lists.first_rules_are_answers.Goals as goal

pub returns : goal.returns
returns c = λ spec m lists condition begin text of there bytes. first_answer spec lists condition begin text (answer m condition begin text) (of.answers condition begin text there bytes)
