use Rattle.std.proofs.Common.{arith}
use Rattle.lx_tables.proofs.JoinedStates.{row_within, rows_few}
use Rattle.lx_tables.proofs.tables.Tables.row.Goals as goal

pub overflow_mul-result : goal.overflow_mul-result
overflow_mul-result c =
    let within = row_within c.args.self.now c.args.q c.requires in
    let few = rows_few c.args.self.now c.states.ensures.table in
    rw (c.from.ensures, c.bit.ensures, c.states.ensures.count, c.encode.ensures, c.from-2.ensures, c.classes.ensures.count) (omega arith)

pub returns-clause-within : goal.returns-clause-within
returns-clause-within c =
    rw (c.from.ensures, c.bit.ensures, c.states.ensures.count, c.encode.ensures, c.from-2.ensures, c.classes.ensures.count) (row_within c.args.self.now c.args.q c.requires)
