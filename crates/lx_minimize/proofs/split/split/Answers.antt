use Rattle.std.proofs.Common.{arith}
use Rattle.std.proofs.lemmas.Grind.{common_steps}
use Rattle.lx_minimize.proofs.NewBlocks.{new_block}
use Rattle.lx_minimize.proofs.Splits.{sound_after, blocks_at_most, stable_without_remaining_states}
use Rattle.lx_minimize.proofs.split.split.Goals as goal

pub overflow_cast-from : goal.overflow_cast-from
overflow_cast-from c = let s = c.requires.complete.small in omega (arith, blocks_at_most c.args.m.now c.args.p.now c.requires.sound)

pub overflow_cast-from-2 : goal.overflow_cast-from-2
overflow_cast-from-2 c = let s = c.requires.complete.small in omega (arith, blocks_at_most c.args.m.now c.args.p.now c.requires.sound)

pub returns-in_default-clause-unsplit : goal.returns-in_default-clause-unsplit
returns-in_default-clause-unsplit c =
    let none = rw c.as_slice-blocks.ensures.value at c.in_default.ensures.none in
    λ _. stable_without_remaining_states c.args.m.now _ _ _ _ _ none

pub divide-requires-clause-small : goal.divide-requires-clause-small
divide-requires-clause-small c = let s = c.requires.complete.small in omega (arith, blocks_at_most c.args.m.now c.args.p.now c.requires.sound)

pub returns-clause-sound : goal.returns-clause-sound
returns-clause-sound c =
    sound_after c.args.m.now c.args.p.now c.divide.new.p c.args.inside.now c.args.from c.args.class c.side_of-wanted.result c.in-Some.remaining_state c.in_ok-moved_states.moved_states.items
    c.requires.complete c.requires.sound c.requires.splitter c.requires.from c.requires.sources.narrow c.side_of-wanted.ensures
    (rw c.as_slice-blocks.ensures.value at c.in_ok-moved_states.ensures) (let long = c.in_ok-moved_states.moved_states.ok.0 in let e = c.is_empty.ensures in let f = c.if-is_empty.false in grind (arith, common_steps)) c.in-Some.ensures.state (rw c.as_slice-blocks.ensures.value at c.in-Some.ensures.remaining_state)
    (rw c.deref-2.ensures.value at c.in_ok-divide.ensures.representatives) (rw c.deref-2.ensures.value at c.in_ok-divide.ensures.blocks)

pub returns-clause-divided : goal.returns-clause-divided
returns-clause-divided c =
    let ms = c.in_ok-moved_states.moved_states.items in
    let range = c.range_of-moved.result in
    new_block c.args.p.now c.divide.new.p ms range (rw c.deref-2.ensures.value at c.in_ok-divide.ensures.blocks)
    (rw c.deref.ensures.value at c.range_of-moved.ensures.low) (rw c.deref.ensures.value at c.range_of-moved.ensures.high)
