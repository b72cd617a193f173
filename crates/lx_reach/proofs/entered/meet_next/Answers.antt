use Rattle.std.proofs.Common.{◌≡◌, ◌∙◌, ap, arith}
use Rattle.lx_scan.specs.Steps.{condition_after}
use Rattle.lx_tables.specs.Model.{rule_at}
use Rattle.lx_reach.proofs.Entering.{behind_known}
use Rattle.lx_reach.proofs.entered.meet_next.Goals as goal

pub meet-requires-clause-number : goal.meet-requires-clause-number
meet-requires-clause-number c =
    let known = behind_known c.args.tables.now c.loop-rule.rule c.args.condition c.rules-rule-end.ensures.table c.requires.condition in
    let is : c.condition_behind.result ≡ condition_after (rule_at c.args.tables.now c.loop-rule.rule).steps c.args.condition =
    c.condition_behind.ensures ∙ ap (λ steps. condition_after steps c.args.condition) c.steps.ensures in
    let long = c.loop-rule.invariant.long in
    omega arith
