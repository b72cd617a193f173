use Rattle.std.proofs.Common.{sym, ◌∙◌}
use Rattle.lx_automaton.proofs.EncodedLists.{if_some}
use Rattle.lx_tables.proofs.tables.Tables.accepts.Goals as goal

pub returns-clause-below : goal.returns-clause-below
returns-clause-below c =
    rw (← c.self.view_is) (if_some c.accepts.result _ (λ r e. c.self.invariant.0.accepted c.args.state.0 r (sym c.accepts.ensures ∙ e)))
