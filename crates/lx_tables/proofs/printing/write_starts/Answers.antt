use Rattle.std.proofs.lemmas.Result.{err_from_is_err_and}
use Rattle.std.proofs.Common.{arith}
use Rattle.lx_tables.specs.Texts.{start_line}
use Rattle.lx_tables.proofs.Written.{prefix_next}
use Rattle.lx_tables.proofs.printing.write_starts.Goals as goal

pub returns-in_err-write_start-clause-err : goal.returns-in_err-write_start-clause-err
returns-in_err-write_start-clause-err g c =
    let p = err_from_is_err_and c.from_residual.result c.from_residual.ensures.1 in
    rw p.1 (prefix_next start_line _ _ _ c.args.tables.now.machine.starts c.loop-condition.condition (0, 0) (omega arith) c.loop-condition.invariant (rw (c.start-elsewhere.ensures.start, c.start-at_begin.ensures.start) at c.in_err-write_start.ensures.err))
