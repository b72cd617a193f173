use Rattle.std.proofs.Common.{sym, ap, ◌∙◌}
use Rattle.lx_c.specs.Reading.{read_words}
use Rattle.lx_c.proofs.OneAutomaton.{one_automaton}
use Rattle.lx_c.proofs.Reading.{have_the_words}
use Rattle.lx_c.proofs.laws.arrays_are_one_to_one.Goals as goal

pub returns : goal.returns
returns c = record {
  same = λ m n im io width classes rows starts.
      let first = have_the_words m im in
      let second = have_the_words n io in
      one_automaton m n im io width
      (sym first.classes ∙ (ap (λ text. read_words 0 text) classes ∙ second.classes))
      (sym first.rows ∙ (ap (λ text. read_words 0 text) rows ∙ second.rows))
      (sym first.starts ∙ (ap (λ text. read_words 0 text) starts ∙ second.starts));
}
