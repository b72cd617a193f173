use Rattle.std.proofs.lemmas.Result.{err_from_is_err_and}
use Rattle.lx_flex_pattern.proofs.reading.read_row.Goals as goal

pub loop-parts-init : goal.loop-parts-init
loop-parts-init c = λ from r. rw c.as_slice-rest.ensures.value r

pub returns-in_err-next_groups-clause-refused : goal.returns-in_err-next_groups-clause-refused
returns-in_err-next_groups-clause-refused c =
    let p = err_from_is_err_and c.from_residual.result c.from_residual.ensures.1 in
    rw p.1 (λ h from r. c.in_err-next_groups.ensures.refused (let e = p.2 in cc) from (c.loop-parts.invariant from r))

pub returns-in-Done-clause-ok : goal.returns-in-Done-clause-ok
returns-in-Done-clause-ok c = λ from r. rw c.end_with_parts.ensures ((rw c.in-Done.is at c.in_ok-next_groups.ensures.ok) from (c.loop-parts.invariant from r))

pub loop-parts-preserved : goal.loop-parts-preserved
loop-parts-preserved c = λ from r. (rw c.in-Goes.is at c.in_ok-next_groups.ensures.ok) from (c.loop-parts.invariant from r)
