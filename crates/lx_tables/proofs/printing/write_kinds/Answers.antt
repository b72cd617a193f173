use Rattle.std.proofs.lemmas.Result.{err_from_is_err_and}
use Rattle.std.proofs.Common.{[], arith}
use Rattle.lx_tables.specs.Texts.{kind_line}
use Rattle.lx_tables.proofs.Written.{prefix_next}
use Rattle.lx_tables.proofs.printing.write_kinds.Goals as goal

pub returns-in_err-write_kind-clause-err : goal.returns-in_err-write_kind-clause-err
returns-in_err-write_kind-clause-err g c =
    let p = err_from_is_err_and c.from_residual.result c.from_residual.ensures.1 in
    rw p.1 (prefix_next kind_line _ _ _ c.args.tables.now.kinds c.loop-number.number [] (omega arith) c.loop-number.invariant (rw c.kind.ensures at c.in_err-write_kind.ensures.err))
