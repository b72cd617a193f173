use Rattle.std.proofs.Common.{◌≡◌, ◌∙◌, true, false, List, ap, sym, subst}
use Rattle.lx_spec.specs.Actions as plain
use Rattle.lx_spec.specs.ActionWords.{AreWords}
use Rattle.lx_spec.specs.declared.word.Word.{Word}
use Rattle.lx_spec.specs.views.Words.{words_view}
use Rattle.lx_spec.specs.views.Actions.{statements_view}
use Rattle.lx_spec.proofs.ActionSteps.{bar-is, no_action}
use Rattle.lx_spec.proofs.action.read_action.Goals as goal

pub returns-then-is_bar : goal.returns-then-is_bar
returns-then-is_bar c =
    let are = rw c.in-Some.is at c.in_ok-words.ensures in
    let test : plain.is_bar (words_view c.in-Some.words.items) ≡ true = ap (λ (ws : List Word). plain.is_bar (words_view ws)) (sym c.deref.ensures.value) ∙ sym c.is_bar.ensures ∙ c.if-is_bar.true in
    plain.a_bar (subst (AreWords c.args.text.now) (bar-is (words_view c.in-Some.words.items) test) are)

pub returns-in-Some-2 : goal.returns-in-Some-2
returns-in-Some-2 c =
    let are = rw c.in-Some.is at c.in_ok-words.ensures in
    let states = rw c.in-Some-2.is at c.in_ok-statements.ensures in
    let same = ap words_view c.deref-2.ensures.value in
    plain.some_statements (words_view c.in-Some.words.items) (statements_view c.in-Some-2.statements.items) are
    (subst (λ ws. plain.AreStatements 0 ws (statements_view c.in-Some-2.statements.items)) same states)

pub returns : goal.returns
returns c =
    let are = rw c.in-Some.is at c.in_ok-words.ensures in
    let never = rw c.in-None.is at c.in_ok-statements.ensures in
    let same = ap words_view c.deref-2.ensures.value in
    let test : plain.is_bar (words_view c.in-Some.words.items) ≡ false = ap (λ (ws : List Word). plain.is_bar (words_view ws)) (sym c.deref.ensures.value) ∙ sym c.is_bar.ensures ∙ c.if-is_bar.false in
    no_action c.args.text.now (words_view c.in-Some.words.items) are test (λ ss a. never ss (subst (λ ws. plain.AreStatements 0 ws ss) (sym same) a))
