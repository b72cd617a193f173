use Rattle.std.proofs.lemmas.Result.{err_from_is_err_and, on_err_weaker}
use Rattle.std.proofs.Common.{codes}
use Rattle.lx_tables.specs.Lines.{value_of}
use Rattle.lx_tables.specs.Texts.{byte_ranges}
use Rattle.lx_tables.specs.declared.byte_values.ByteValues.TheVariants.{Classes}
use Rattle.lx_tables.proofs.Written.{wrote_both, prefix_more, prefix_then}
use Rattle.lx_tables.proofs.lines.write_classes.Goals as goal

pub returns-in_err-write_bytes-clause-err : goal.returns-in_err-write_bytes-clause-err
returns-in_err-write_bytes-clause-err g c =
    let p = err_from_is_err_and c.from_residual.result c.from_residual.ensures.1 in
    rw p.1 (prefix_more (codes "\n") (prefix_more (byte_ranges (value_of c.args.tables.now.machine Classes)) c.in_err-write_bytes.ensures.err))

pub returns-in_err-write_ranges-clause-err : goal.returns-in_err-write_ranges-clause-err
returns-in_err-write_ranges-clause-err g c =
    let p = err_from_is_err_and c.from_residual-in_err-write_ranges.result c.from_residual-in_err-write_ranges.ensures.1 in
    rw p.1 (prefix_more (codes "\n") (prefix_then c.in_ok-write_bytes.ensures.ok c.in_err-write_ranges.ensures.err))

pub returns-clause-err : goal.returns-clause-err
returns-clause-err g c = on_err_weaker c.write_bytes-2.result (λ h. (prefix_then (wrote_both c.in_ok-write_bytes.ensures.ok c.in_ok-write_ranges.ensures.ok) h)) c.write_bytes-2.ensures.err
