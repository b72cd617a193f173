use Rattle.std.proofs.Common.{arith}
use Rattle.lx_tables.proofs.JoinedStates.{condition_below}
use Rattle.lx_tables.proofs.joining.state_at.Goals as goal

pub overflow_cast-result : goal.overflow_cast-result
overflow_cast-result c =
    let below = condition_below c.args.tables.now c.args.number c.requires.number in
    let few = c.requires.table.machine.few in
    rw c.states.ensures.count (omega arith)
