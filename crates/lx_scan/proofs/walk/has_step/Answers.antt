use Rattle.std.proofs.Common.{arith}
use Rattle.lx_scan.proofs.Walking.{no_step}
use Rattle.lx_scan.proofs.walk.has_step.Goals as goal

pub returns-clause-none : goal.returns-clause-none
returns-clause-none c none byte =
    let t = c.tables_are_well_formed.ensures in
    let end = c.loop-byte-test.false in
    no_step c.args.tables.now.machine c.args.state.0 t.machine.bytes t.classes.numbered (λ b less. c.loop-byte.invariant b (omega arith)) byte
