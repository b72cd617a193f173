use Rattle.std.proofs.Common.{◌≡◌, true, add-one}
use Rattle.std.proofs.lemmas.List.{take_all}
use Rattle.lx_automaton.proofs.Members.{contains_at}
use Rattle.lx_minimize.proofs.MovedStates.{among_nothing, among_push, among_skip}
use Rattle.lx_minimize.proofs.moving.moved_states_among.Goals as goal
use Rattle.lx_minimize.proofs.moving.moved_states_among.Goals.{then-is_moved+in_ok-push, else-is_moved}

pub loop-i-init : goal.loop-i-init
loop-i-init c = rw c.new-moved_states.ensures.items (among_nothing c.args.m.now c.args.blocks.now c.args.inside.now c.args.from c.args.class c.args.wanted c.args.states.now)

pub is_moved-requires-clause-state : goal.is_moved-requires-clause-state
is_moved-requires-clause-state c = c.requires.states _ (contains_at c.args.states.now c.loop-i.i c.loop-i-test.true)

pub loop-i-preserved : goal.loop-i-preserved
loop-i-preserved c = rw (add-one c.loop-i.i) (elim c.if-is_moved.branch [
  | then-is_moved+in_ok-push w ↦ rw (w.moved_states-is, w.in_ok-push.ensures.items) (among_push _ _ _ _ _ _ c.args.states.now c.loop-i.moved_states.items c.loop-i.i c.loop-i-test.true c.loop-i.invariant (c.is_moved.ensures.0 w.if-is_moved.true))
  | else-is_moved w ↦ rw w.moved_states-is (among_skip _ _ _ _ _ _ c.args.states.now c.loop-i.moved_states.items c.loop-i.i c.loop-i.invariant (λ h. let t : c.is_moved.result ≡ true = c.is_moved.ensures.1 h in let f = w.if-is_moved.false in cc))
])

pub returns : goal.returns
returns c = rw (← take_all c.loop-i.i c.args.states.now c.loop-i-test.false) c.loop-i.invariant
