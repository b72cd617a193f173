use Rattle.std.proofs.lemmas.Result.{err_from_is_err_and, on_err_weaker}
use Rattle.lx_tables.proofs.Written.{wrote_both, prefix_more, prefix_then}
use Rattle.lx_tables.proofs.lines.write_rule.Goals as goal

pub returns-in_err-write_line_end-clause-err : goal.returns-in_err-write_line_end-clause-err
returns-in_err-write_line_end-clause-err g c =
    let p = err_from_is_err_and c.from_residual.result c.from_residual.ensures.1 in
    rw p.1 (prefix_more _ (prefix_more _ c.in_err-write_line_end.ensures.err))

pub returns-in_err-write_steps-clause-err : goal.returns-in_err-write_steps-clause-err
returns-in_err-write_steps-clause-err g c =
    let p = err_from_is_err_and c.from_residual-in_err-write_steps.result c.from_residual-in_err-write_steps.ensures.1 in
    rw p.1 (prefix_more _ (prefix_then c.in_ok-write_line_end.ensures.ok c.in_err-write_steps.ensures.err))

pub returns-clause-err : goal.returns-clause-err
returns-clause-err g c = on_err_weaker c.write_bytes.result (λ h. (prefix_then (wrote_both c.in_ok-write_line_end.ensures.ok c.in_ok-write_steps.ensures.ok) h)) c.write_bytes.ensures.err
