use Rattle.std.proofs.lemmas.Result.{err_from_is_err_and}
use Rattle.std.proofs.Common.{false, [], arith}
use Rattle.lx_tables.specs.Texts.{rule_line}
use Rattle.lx_tables.proofs.Written.{prefix_next}
use Rattle.lx_tables.proofs.printing.write_rules.Goals as goal

pub returns-in_err-write_rule-clause-err : goal.returns-in_err-write_rule-clause-err
returns-in_err-write_rule-clause-err g c =
    let p = err_from_is_err_and c.from_residual.result c.from_residual.ensures.1 in
    rw p.1 (prefix_next rule_line _ _ _ c.args.tables.now.rules c.loop-rule.rule (record { line_end = false; steps = [] }) (omega arith) c.loop-rule.invariant (rw (c.cut.ensures, c.steps.ensures) at c.in_err-write_rule.ensures.err))
