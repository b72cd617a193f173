use Rattle.std.proofs.Common.{arith}
use Rattle.lx_tables.proofs.JoinedStates.{row_condition, row_condition_below}
use Rattle.lx_tables.proofs.tables.Tables.condition_of_row.Goals as goal

pub overflow_cast-result-2 : goal.overflow_cast-result-2
overflow_cast-result-2 c =
    let below = row_condition_below c.args.self.now c.args.row c.requires in
    let few = c.states.ensures.table.machine.few in
    rw (c.from.ensures, c.classes.ensures.count, c.states.ensures.count) (omega arith)

pub returns : goal.returns
returns c = λ q known e. rw (c.from.ensures, c.classes.ensures.count, c.states.ensures.count) (row_condition c.args.self.now c.args.row q known e)
