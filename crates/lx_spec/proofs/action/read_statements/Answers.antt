use Rattle.std.proofs.Common.{◌≡◌, ◌∙◌, ◌+◌, ◌<◌, [], ◌∷◌, ◌++◌, drop, ap, sym, subst, arith, ℕ}
use Rattle.std.proofs.lemmas.List.{map_push}
use Rattle.lx_spec.specs.Actions as plain
use Rattle.lx_spec.specs.views.Words.{words_view}
use Rattle.lx_spec.specs.views.Actions.{statement_view, statements_view}
use Rattle.lx_spec.proofs.ActionSteps.{StatementsRead, StatementsRead-opens, StatementsRead-closes, StatementsRead-unopened, StatementsRead-states, StatementsRead-end, StatementsRead-unclosed, StatementsRead-none, turn-opens, turn-closes, turn-states, turn-other}
use Rattle.lx_spec.proofs.action.read_statements.Goals as goal

pub returns-then-depth-gt0 : goal.returns-then-depth-gt0
returns-then-depth-gt0 c =
    StatementsRead-unclosed (words_view c.args.words.now) c.words.depth (words_view (drop c.words.at c.args.words.now)) (statements_view c.words.statements.items) c.words.invariant.read
    (turn-other c.args.words.now c.words.at plain.finished c.in-Finished.ensures.value) (omega arith)

pub returns-in-Finished : goal.returns-in-Finished
returns-in-Finished c =
    let zero : c.words.depth ≡ 0 = omega arith in
    StatementsRead-end (words_view c.args.words.now) (words_view (drop c.words.at c.args.words.now)) (statements_view c.words.statements.items)
    (subst (λ (n : ℕ). StatementsRead (words_view c.args.words.now) n (words_view (drop c.words.at c.args.words.now)) (statements_view c.words.statements.items)) zero c.words.invariant.read)
    (turn-other c.args.words.now c.words.at plain.finished c.in-Finished.ensures.value)

pub words-preserved-in-Opens : goal.words-preserved-in-Opens
words-preserved-in-Opens c = record {
  read = StatementsRead-opens (words_view c.args.words.now) c.words.depth (words_view (drop c.words.at c.args.words.now)) (words_view (drop (c.words.at + 1) c.args.words.now)) (statements_view c.words.statements.items)
      c.words.invariant.read (turn-opens c.args.words.now c.words.at c.in-Opens.ensures.value);
  within = omega (arith, c.in-Opens.ensures.within);
  shallow = omega arith;
}

pub returns-then-depth-eq0 : goal.returns-then-depth-eq0
returns-then-depth-eq0 c =
    let zero : c.words.depth ≡ 0 = omega arith in
    StatementsRead-unopened (words_view c.args.words.now) (words_view (drop c.words.at c.args.words.now)) (words_view (drop (c.words.at + 1) c.args.words.now)) (statements_view c.words.statements.items)
    (subst (λ (n : ℕ). StatementsRead (words_view c.args.words.now) n (words_view (drop c.words.at c.args.words.now)) (statements_view c.words.statements.items)) zero c.words.invariant.read)
    (turn-closes c.args.words.now c.words.at c.in-Closes.ensures.value)

pub words-preserved-in-Closes : goal.words-preserved-in-Closes
words-preserved-in-Closes c =
    let positive : 0 < c.words.depth = omega arith in
    record {
      read = StatementsRead-closes (words_view c.args.words.now) c.words.depth (words_view (drop c.words.at c.args.words.now)) (words_view (drop (c.words.at + 1) c.args.words.now)) (statements_view c.words.statements.items)
          c.words.invariant.read (turn-closes c.args.words.now c.words.at c.in-Closes.ensures.value) positive;
      within = omega (arith, c.in-Closes.ensures.within);
      shallow = omega arith;
    }

pub words-preserved : goal.words-preserved
words-preserved c =
    let grown : statements_view c.push.new.self.items ≡ statements_view c.words.statements.items ++ statement_view c.in-States.statement ∷ [] =
    ap statements_view c.in_ok-push-in-States.ensures.items ∙ map_push statement_view c.words.statements.items c.in-States.statement in
    record {
      read = subst (StatementsRead (words_view c.args.words.now) c.words.depth (words_view (drop (c.words.at + c.in-States.n) c.args.words.now))) (sym grown)
          (StatementsRead-states (words_view c.args.words.now) c.words.depth (words_view (drop c.words.at c.args.words.now)) (words_view (drop (c.words.at + c.in-States.n) c.args.words.now)) (statements_view c.words.statements.items)
          (statement_view c.in-States.statement) c.words.invariant.read (turn-states c.args.words.now c.words.at c.in-States.n (statement_view c.in-States.statement) c.in-States.ensures.value));
      within = omega (arith, c.in-States.ensures.within);
      shallow = omega arith;
    }

pub returns-in-NoStatement : goal.returns-in-NoStatement
returns-in-NoStatement c =
    StatementsRead-none (words_view c.args.words.now) c.words.depth (words_view (drop c.words.at c.args.words.now)) (statements_view c.words.statements.items) c.words.invariant.read
    (turn-other c.args.words.now c.words.at plain.no_statement c.in-NoStatement.ensures.value)
