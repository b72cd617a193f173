use Rattle.std.proofs.Common.{arith, sym, ◌∙◌}
use Rattle.lx_automaton.specs.Automata.{class_target}
use Rattle.lx_graph.specs.Graph.{is_led_before}
use Rattle.lx_graph.specs.Labels.{is_target}
use Rattle.lx_graph.proofs.NoneOf.{none_at_all, none_more, one_at}
use Rattle.lx_graph.proofs.edges.is_led_before.Goals as goal

pub returns-then-is_target : goal.returns-then-is_target
unfolding is_led_before
returns-then-is_target c =
    sym (one_at (λ k. is_target c.args.target (class_target c.args.tables.now.machine c.args.state k)) c.args.class c.loop-before.before (omega arith) (sym c.is_target.ensures ∙ c.if-is_target.true))

pub loop-before-preserved : goal.loop-before-preserved
loop-before-preserved c =
    none_more (λ k. is_target c.args.target (class_target c.args.tables.now.machine c.args.state k)) c.args.class c.loop-before.before (omega arith) c.loop-before.invariant (sym c.is_target.ensures ∙ c.if-is_target.false)

pub returns : goal.returns
unfolding is_led_before
returns c =
    sym (none_at_all (λ k. is_target c.args.target (class_target c.args.tables.now.machine c.args.state k)) c.args.class c.loop-before.before (omega arith) c.loop-before.invariant)
