use Rattle.std.proofs.Common.{sym, ◌∙◌}
use Rattle.lx_automaton.specs.Automata.{accepted_at}
use Rattle.lx_tables.proofs.JoinedStates.{condition_known, target_known}
use Rattle.lx_tables.proofs.joining.step.Goals as goal

pub returns-in-Some-clause-known : goal.returns-in-Some-clause-known
returns-in-Some-clause-known c = record {
  condition = c.requires.known.condition;
  state = λ s e. target_known c.args.tables.now c.requires.table c.args.q.state c.args.class s c.requires.known.state c.requires.class (sym c.in-Some.ensures ∙ e);
}

pub first_state-requires-clause-condition : goal.first_state-requires-clause-condition
first_state-requires-clause-condition c =
    rw c.requires.condition (condition_known c.args.tables.now c.requires.table (accepted_at c.args.tables.now.machine c.args.q.state) c.args.q.condition c.requires.known.condition)
