use Rattle.std.proofs.Common.{◌≡◌, [], ◌∷◌, ◌++◌, ◌∙◌, ap, sym, subst}
use Rattle.std.proofs.lemmas.List.{map_push}
use Rattle.lx_spec.specs.views.Words.{word_view, words_view}
use Rattle.lx_spec.proofs.WordSteps.{Reached, Reached-passed, Reached-word, Reached-end}
use Rattle.lx_spec.proofs.word.read_words.Goals as goal

pub returns-in-Ended : goal.returns-in-Ended
returns-in-Ended c = Reached-end c.args.text.now c.pieces.rest.now (words_view c.pieces.words.items) c.pieces.invariant c.in-Ended.ensures.value

pub pieces-preserved-in-Passed : goal.pieces-preserved-in-Passed
pieces-preserved-in-Passed c = Reached-passed c.args.text.now c.pieces.rest.now c.in-Passed.behind.now (words_view c.pieces.words.items) c.pieces.invariant c.in-Passed.ensures.value

pub pieces-preserved : goal.pieces-preserved
pieces-preserved c =
    let grown : words_view c.push.new.self.items ≡ words_view c.pieces.words.items ++ word_view c.in-Found.word ∷ [] =
    ap words_view c.in_ok-push-in-Found.ensures.items ∙ map_push word_view c.pieces.words.items c.in-Found.word in
    subst (Reached c.args.text.now c.in-Found.behind.now) (sym grown)
    (Reached-word c.args.text.now c.pieces.rest.now c.in-Found.behind.now (words_view c.pieces.words.items) (word_view c.in-Found.word) c.pieces.invariant c.in-Found.ensures.value)
