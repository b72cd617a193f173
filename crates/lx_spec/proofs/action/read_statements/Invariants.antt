use Rattle.std.proofs.Common.{◌-◌, ◌≤◌, length, drop}
use Rattle.lx_spec.specs.views.Words.{words_view}
use Rattle.lx_spec.specs.views.Actions.{statements_view}
use Rattle.lx_spec.proofs.ActionSteps.{StatementsRead}
use Rattle.lx_spec.proofs.action.read_statements.Given as goal

abbrev pub invariant-words : goal.invariant-words
invariant-words l = record {
  read : StatementsRead (words_view l.words) l.depth (words_view (drop l.at l.words)) (statements_view l.statements.items);
  within : l.at ≤ length l.words;
  shallow : l.depth ≤ l.at;
}

abbrev pub decreases-words : goal.decreases-words
decreases-words l = length l.words - l.at
