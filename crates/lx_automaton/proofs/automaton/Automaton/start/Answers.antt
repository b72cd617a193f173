use Rattle.lx_automaton.proofs.EncodedLists.{start_below}
use Rattle.lx_automaton.proofs.automaton.Automaton.start.Goals as goal

pub returns-then-at_line_begin-clause-state : goal.returns-then-at_line_begin-clause-state
returns-then-at_line_begin-clause-state c =
    rw (← c.self.view_is) ((start_below _ c.self.invariant.0 c.args.condition c.index.result.now (rw (← c.self.view_is) at c.requires) c.index.ensures).1)

pub returns-else-at_line_begin-clause-state : goal.returns-else-at_line_begin-clause-state
returns-else-at_line_begin-clause-state c =
    rw (← c.self.view_is) ((start_below _ c.self.invariant.0 c.args.condition c.index.result.now (rw (← c.self.view_is) at c.requires) c.index.ensures).0)
