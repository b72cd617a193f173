use Rattle.std.proofs.Common.{length}
use Rattle.lx_spec.specs.views.Words.{words_view}
use Rattle.lx_spec.proofs.WordSteps.{Reached}
use Rattle.lx_spec.proofs.word.read_words.Given as goal

abbrev pub invariant-pieces : goal.invariant-pieces
invariant-pieces l = Reached l.text l.rest (words_view l.words.items)

abbrev pub decreases-pieces : goal.decreases-pieces
decreases-pieces l = length l.rest
