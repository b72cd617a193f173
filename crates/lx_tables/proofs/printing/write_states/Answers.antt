use Rattle.std.proofs.lemmas.Result.{err_from_is_err_and, on_err_weaker}
use Rattle.lx_tables.proofs.Written.{wrote_both, prefix_more, prefix_then}
use Rattle.lx_tables.proofs.printing.write_states.Goals as goal

pub returns-in_err-write_count-clause-err : goal.returns-in_err-write_count-clause-err
returns-in_err-write_count-clause-err g c =
    let p = err_from_is_err_and c.from_residual.result c.from_residual.ensures.1 in
    rw p.1 (prefix_more _ (prefix_more _ (rw c.states.ensures.count at c.in_err-write_count.ensures.err)))

pub returns-in_err-write_state_lines-clause-err : goal.returns-in_err-write_state_lines-clause-err
returns-in_err-write_state_lines-clause-err g c =
    let p = err_from_is_err_and c.from_residual-in_err-write_state_lines.result c.from_residual-in_err-write_state_lines.ensures.1 in
    rw p.1 (prefix_more _ (prefix_then (rw c.states.ensures.count at c.in_ok-write_count.ensures.ok) c.in_err-write_state_lines.ensures.err))

pub returns-clause-err : goal.returns-clause-err
returns-clause-err g c = on_err_weaker c.write_bytes.result (λ h. (prefix_then (wrote_both (rw c.states.ensures.count at c.in_ok-write_count.ensures.ok) c.in_ok-write_state_lines.ensures.ok) h)) c.write_bytes.ensures.err
