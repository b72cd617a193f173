use Rattle.std.proofs.Common.{◌∙◌, List, Option, Some, ap, sym}
use Rattle.lx_spec.specs.Actions as plain
use Rattle.lx_spec.specs.ActionWords.{Word}
use Rattle.lx_spec.specs.views.Words.{word_view}
use Rattle.lx_spec.specs.views.Actions.{statement_view}
use Rattle.lx_spec.proofs.ActionSteps.{words-further, words-rest}
use Rattle.lx_spec.proofs.action.return_at.Goals as goal

pub returns-in-Some-return_statement-clause-value : goal.returns-in-Some-return_statement-clause-value
returns-in-Some-return_statement-clause-value c =
    let S : List Word → Option (plain.Statement × List Word) = λ l. Some (statement_view c.in-Some-return_statement.statement, l) in
    ap S (sym (words-further c.args.words.now c.in-Some.n 1)) ∙ c.in-Some-return_statement.ensures.value
    ∙ ap (plain.returned (plain.value_of (word_view c.in-Some.word))) (words-rest c.args.words.now c.in-Some.n) ∙ ap plain.return_at c.in-Some.ensures.value
