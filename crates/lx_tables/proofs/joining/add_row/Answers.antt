use Rattle.std.proofs.Common.{◌∙◌, ap, nat_eq, arith}
use Rattle.lx_tables.specs.Joined.{class_of_column, joined_entry, joined_step}
use Rattle.lx_tables.specs.declared.joined.JoinedState.{JoinedState}
use Rattle.lx_tables.proofs.JoinedStates.{entry_push}
use Rattle.lx_tables.proofs.joining.add_row.Goals as goal

pub loop-column-preserved : goal.loop-column-preserved
loop-column-preserved c =
    let table = c.args.tables.now in
    let column = c.loop-column.column in
    rw c.in_ok-push.ensures.items (entry_push table c.loop-column.entries.items c.args.number column c.entry.result c.loop-column.invariant (omega arith)
    (c.entry.ensures.entry ∙ ap (λ (q : JoinedState). joined_entry table (joined_step table q (class_of_column table column) (nat_eq column table.machine.width))) c.state_at-q.ensures.state) c.entry.ensures.row)
