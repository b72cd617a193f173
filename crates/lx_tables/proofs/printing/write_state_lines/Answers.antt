use Rattle.std.proofs.lemmas.Result.{err_from_is_err_and}
use Rattle.std.proofs.Common.{arith}
use Rattle.lx_automaton.specs.Automata.{state_count}
use Rattle.lx_tables.specs.Lines.{state_line}
use Rattle.lx_tables.proofs.Written.{number_next, number_prefix, number_end}
use Rattle.lx_tables.proofs.printing.write_state_lines.Goals as goal

pub returns-in_err-write_state-clause-err : goal.returns-in_err-write_state-clause-err
returns-in_err-write_state-clause-err g c =
    let p = err_from_is_err_and c.from_residual.result c.from_residual.ensures.1 in
    rw p.1 (number_prefix (λ s. state_line c.args.version c.args.tables.now.machine s) _ _ _ (state_count c.args.tables.now.machine) c.loop-state.state (omega arith) c.loop-state.invariant (c.in_err-write_state.ensures.err))

pub loop-state-preserved : goal.loop-state-preserved
loop-state-preserved g c =
    number_next (λ s. state_line c.args.version c.args.tables.now.machine s) _ _ _ (state_count c.args.tables.now.machine) c.loop-state.state (omega arith) c.loop-state.invariant (c.in_ok-write_state.ensures.ok)

pub returns-clause-ok : goal.returns-clause-ok
returns-clause-ok g c = number_end (λ s. state_line c.args.version c.args.tables.now.machine s) _ _ (state_count c.args.tables.now.machine) c.loop-state.state (omega arith) c.loop-state.invariant
