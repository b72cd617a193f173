use Rattle.std.proofs.Common.{arith}
use Rattle.lx_rules.specs.views.Rules.{names_view}
use Rattle.lx_automaton.specs.Automata.{state_count}
use Rattle.lx_graph.specs.Graph.{state_text}
use Rattle.lx_graph.proofs.Texts.{text_end, text_next}
use Rattle.lx_graph.proofs.graph.push_states.Goals as goal

pub loop-state-preserved : goal.loop-state-preserved
loop-state-preserved c = text_next (state_text c.args.tables.now (names_view c.args.names.now)) _ _ _ (state_count c.args.tables.now.machine) c.loop-state.state (omega arith) c.loop-state.invariant c.in_ok-push_state.ensures

pub returns : goal.returns
returns c = text_end (state_text c.args.tables.now (names_view c.args.names.now)) _ _ (state_count c.args.tables.now.machine) c.loop-state.state (omega arith) c.loop-state.invariant
