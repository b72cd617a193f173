use Rattle.std.proofs.Common.{arith, length}
use Rattle.lx_rules.specs.views.Rules.{names_view}
use Rattle.lx_graph.specs.Graph.{condition_text}
use Rattle.lx_graph.proofs.Texts.{text_end, text_next}
use Rattle.lx_graph.proofs.graph.push_starts.Goals as goal

pub loop-condition-preserved : goal.loop-condition-preserved
loop-condition-preserved c = text_next (condition_text (names_view c.args.names.now) c.args.tables.now.machine) _ _ _ (length c.args.tables.now.machine.starts) c.loop-condition.condition (omega arith) c.loop-condition.invariant c.in_ok-push_start.ensures

pub returns : goal.returns
returns c = text_end (condition_text (names_view c.args.names.now) c.args.tables.now.machine) _ _ (length c.args.tables.now.machine.starts) c.loop-condition.condition (omega arith) c.loop-condition.invariant
