use Rattle.std.proofs.Common.{◌≡◌, ◌<◌, ℕ, Some, sym, subst, ◌∙◌}
use Rattle.lx_automaton.specs.Automata.{state_count}
use Rattle.lx_tables.proofs.JoinedStates.{target_known}
use Rattle.lx_tables.proofs.tables.Tables.first_state.Goals as goal

pub returns-clause-known : goal.returns-clause-known
returns-clause-known c = record {
  condition = c.requires.condition;
  state = λ t e. target_known c.args.self.now c.start-start.ensures.table (Some c.start-start.result.0) c.args.class t
      (λ s f. let same : c.start-start.result.0 ≡ s = cc in subst (λ (n : ℕ). n < state_count c.args.self.now.machine) same c.start-start.ensures.state) c.requires.class (sym c.target.ensures ∙ e);
}
