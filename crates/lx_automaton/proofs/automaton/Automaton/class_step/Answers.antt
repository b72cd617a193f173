use Rattle.lx_automaton.proofs.EncodedLists.{target_below}
use Rattle.lx_automaton.proofs.automaton.Automaton.class_step.Goals as goal

pub returns-else-encoded-eq0-clause-state : goal.returns-else-encoded-eq0-clause-state
returns-else-encoded-eq0-clause-state c =
    let i = c.self.inside in
    rw (← c.self.view_is) (target_below i.starts.items i.classes.items i.width i.accepted.items i.targets.items c.self.invariant.0
    c.args.state.0 c.args.class c.index-encoded.result.now (rw (← c.self.view_is) at c.requires.state) (rw (← c.self.view_is) at c.requires.class) c.index-encoded.ensures c.if-encoded-eq0.false)
