use Rattle.std.proofs.Common.{ap, ◌∙◌}
use Rattle.lx_c.specs.Kinds.{is_word, has_part}
use Rattle.lx_c.specs.declared.words.TheConstants.{WORDS}
use Rattle.lx_c.proofs.judging.is_spaced_word.Goals as goal

pub returns : goal.returns
unfolding is_word
returns c = λ name e. c.has_part.ensures ∙ ap (λ spaced. has_part spaced WORDS.now) e
