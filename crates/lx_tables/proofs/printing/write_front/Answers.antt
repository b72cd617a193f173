use Rattle.std.proofs.lemmas.Result.{err_from_is_err_and, on_err_weaker, on_ok_weaker}
use Rattle.lx_tables.proofs.Written.{wrote_both, prefix_more, prefix_then}
use Rattle.lx_tables.proofs.printing.write_front.Goals as goal

pub returns-in_err-write_count-clause-err : goal.returns-in_err-write_count-clause-err
returns-in_err-write_count-clause-err g c =
    let p = err_from_is_err_and c.from_residual.result c.from_residual.ensures.1 in
    rw p.1 (prefix_more _ (prefix_more _ (prefix_more _ (prefix_more _ (prefix_more _ (rw (c.from.ensures, c.conditions.ensures.count) at c.in_err-write_count.ensures.err))))))

pub returns-in_err-write_starts-clause-err : goal.returns-in_err-write_starts-clause-err
returns-in_err-write_starts-clause-err g c =
    let p = err_from_is_err_and c.from_residual-in_err-write_starts.result c.from_residual-in_err-write_starts.ensures.1 in
    rw p.1 (prefix_more _ (prefix_more _ (prefix_more _ (prefix_more _ (prefix_then (rw (c.from.ensures, c.conditions.ensures.count) at c.in_ok-write_count.ensures.ok) c.in_err-write_starts.ensures.err)))))

pub returns-in_err-write_count-2-clause-err : goal.returns-in_err-write_count-2-clause-err
returns-in_err-write_count-2-clause-err g c =
    let p = err_from_is_err_and c.from_residual-in_err-write_count-2.result c.from_residual-in_err-write_count-2.ensures.1 in
    rw p.1 (prefix_more _ (prefix_more _ (prefix_more _ (prefix_then (wrote_both (rw (c.from.ensures, c.conditions.ensures.count) at c.in_ok-write_count.ensures.ok) c.in_ok-write_starts.ensures.ok) (rw c.kinds.ensures at c.in_err-write_count-2.ensures.err)))))

pub returns-in_err-write_kinds-clause-err : goal.returns-in_err-write_kinds-clause-err
returns-in_err-write_kinds-clause-err g c =
    let p = err_from_is_err_and c.from_residual-in_err-write_kinds.result c.from_residual-in_err-write_kinds.ensures.1 in
    rw p.1 (prefix_more _ (prefix_more _ (prefix_then (wrote_both (wrote_both (rw (c.from.ensures, c.conditions.ensures.count) at c.in_ok-write_count.ensures.ok) c.in_ok-write_starts.ensures.ok) (rw c.kinds.ensures at c.in_ok-write_count-2.ensures.ok)) c.in_err-write_kinds.ensures.err)))

pub returns-in_err-write_count-3-clause-err : goal.returns-in_err-write_count-3-clause-err
returns-in_err-write_count-3-clause-err g c =
    let p = err_from_is_err_and c.from_residual-in_err-write_count-3.result c.from_residual-in_err-write_count-3.ensures.1 in
    rw p.1 (prefix_more _ (prefix_then (wrote_both (wrote_both (wrote_both (rw (c.from.ensures, c.conditions.ensures.count) at c.in_ok-write_count.ensures.ok) c.in_ok-write_starts.ensures.ok) (rw c.kinds.ensures at c.in_ok-write_count-2.ensures.ok)) c.in_ok-write_kinds.ensures.ok) (rw (c.from-2.ensures, c.rules.ensures.count) at c.in_err-write_count-3.ensures.err)))

pub returns-clause-err : goal.returns-clause-err
returns-clause-err g c = on_err_weaker c.write_rules.result (λ h. (prefix_then (wrote_both (wrote_both (wrote_both (wrote_both (rw (c.from.ensures, c.conditions.ensures.count) at c.in_ok-write_count.ensures.ok) c.in_ok-write_starts.ensures.ok) (rw c.kinds.ensures at c.in_ok-write_count-2.ensures.ok)) c.in_ok-write_kinds.ensures.ok) (rw (c.from-2.ensures, c.rules.ensures.count) at c.in_ok-write_count-3.ensures.ok)) h)) c.write_rules.ensures.err

pub returns-clause-ok : goal.returns-clause-ok
returns-clause-ok g c = on_ok_weaker c.write_rules.result (λ h. (wrote_both (wrote_both (wrote_both (wrote_both (wrote_both (rw (c.from.ensures, c.conditions.ensures.count) at c.in_ok-write_count.ensures.ok) c.in_ok-write_starts.ensures.ok) (rw c.kinds.ensures at c.in_ok-write_count-2.ensures.ok)) c.in_ok-write_kinds.ensures.ok) (rw (c.from-2.ensures, c.rules.ensures.count) at c.in_ok-write_count-3.ensures.ok)) h)) c.write_rules.ensures.ok
