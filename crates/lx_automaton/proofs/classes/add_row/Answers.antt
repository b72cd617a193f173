use Rattle.lx_automaton.proofs.ClassRows.{row_push}
use Rattle.lx_automaton.proofs.classes.add_row.Goals as goal

pub loop-number-preserved : goal.loop-number-preserved
loop-number-preserved c =
    rw c.in_ok-push.ensures.items (row_push _ _ _ c.args.state c.loop-number.number _ c.loop-number.invariant c.loop-number-test.true c.encoded_target-target.ensures)
