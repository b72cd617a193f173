use Rattle.std.proofs.Common.{sym, subst}
use Rattle.std.proofs.lemmas.Result.{IfOk-weaker}
use Rattle.lx_minimize.specs.Completion.{total}
use Rattle.lx_minimize.specs.Partitions.{AreMovedStates}
use Rattle.lx_minimize.proofs.MovedStates.{all_moved_states}
use Rattle.lx_minimize.proofs.moving.moved_states_of.Goals as goal

pub returns-then-wanted : goal.returns-then-wanted
returns-then-wanted c = IfOk-weaker c.moved_states_among.result _ _ (λ moved_states are.
    subst (λ wanted. AreMovedStates c.args.m.now c.args.blocks.now c.args.inside.now c.args.from c.args.class wanted (total c.args.m.now) moved_states.items) (sym c.if-wanted.true)
    (all_moved_states c.args.m.now c.args.blocks.now c.args.inside.now c.args.from c.args.class c.args.sources.now moved_states.items c.requires.sources are)) c.moved_states_among.ensures
