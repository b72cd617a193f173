use Rattle.std.proofs.Common.{arith}
use Rattle.lx_graph.specs.Graph.{edge_text, edges_text}
use Rattle.lx_graph.proofs.Texts.{text_end, text_next}
use Rattle.lx_graph.proofs.edges.push_edges.Goals as goal

pub loop-class-preserved : goal.loop-class-preserved
loop-class-preserved c = text_next (edge_text c.args.tables.now.machine c.args.state) _ _ _ (c.args.tables.now.machine.width) c.loop-class.class (omega arith) c.loop-class.invariant c.in_ok-push_edge.ensures

pub returns : goal.returns
unfolding edges_text
returns c = text_end (edge_text c.args.tables.now.machine c.args.state) _ _ (c.args.tables.now.machine.width) c.loop-class.class (omega arith) c.loop-class.invariant
