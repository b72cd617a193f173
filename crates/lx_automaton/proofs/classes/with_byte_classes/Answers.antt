use Rattle.std.proofs.Common.{◌≡◌, map, arith, ◌∙◌, ap}
use Rattle.lx_automaton.specs.Automata.{Machine}
use Rattle.lx_automaton.specs.EncodedOptions.{decoded_option}
use Rattle.lx_automaton.proofs.ClassRows.{classed_machine, classed_classes, classed_steps}
use Rattle.lx_automaton.proofs.classes.with_byte_classes.Goals as goal

pub of-requires-clause-machine : goal.of-requires-clause-machine
of-requires-clause-machine c =
    let n : c.loop-byte.byte ≡ 256 = omega arith in
    let long = c.loop-byte.representatives.ok.0 in
    classed_machine c.args.draft.now c.loop-byte.numbers.items c.loop-byte.representatives.items c.in_ok-targets.targets.items
    (rw c.draft.view_is at c.draft.invariant) (rw n at c.loop-byte.invariant) (rw c.deref.ensures.value at c.in_ok-targets.ensures) _ _ _
    (c.in_ok-starts.ensures.items ∙ c.deref-2.ensures.value ∙ ap (λ (m : Machine). m.starts) c.draft.view_is)
    (ap (λ xs. map decoded_option xs) (c.in_ok-accepted.ensures.items ∙ c.deref-3.ensures.value) ∙ ap (λ (m : Machine). m.accepted) c.draft.view_is)
    (omega arith)

pub of-requires-clause-classes : goal.of-requires-clause-classes
of-requires-clause-classes c =
    let n : c.loop-byte.byte ≡ 256 = omega arith in
    let long = c.loop-byte.representatives.ok.0 in
    classed_classes c.args.draft.now c.loop-byte.numbers.items c.loop-byte.representatives.items c.in_ok-targets.targets.items
    (rw c.draft.view_is at c.draft.invariant) (rw n at c.loop-byte.invariant) (rw c.deref.ensures.value at c.in_ok-targets.ensures) _ _ _
    (c.in_ok-starts.ensures.items ∙ c.deref-2.ensures.value ∙ ap (λ (m : Machine). m.starts) c.draft.view_is)
    (ap (λ xs. map decoded_option xs) (c.in_ok-accepted.ensures.items ∙ c.deref-3.ensures.value) ∙ ap (λ (m : Machine). m.accepted) c.draft.view_is)
    (omega arith)

pub returns-clause-machine : goal.returns-clause-machine
returns-clause-machine c =
    rw c.of.ensures (
    let n : c.loop-byte.byte ≡ 256 = omega arith in
    let long = c.loop-byte.representatives.ok.0 in
    classed_machine c.args.draft.now c.loop-byte.numbers.items c.loop-byte.representatives.items c.in_ok-targets.targets.items
    (rw c.draft.view_is at c.draft.invariant) (rw n at c.loop-byte.invariant) (rw c.deref.ensures.value at c.in_ok-targets.ensures) _ _ _
    (c.in_ok-starts.ensures.items ∙ c.deref-2.ensures.value ∙ ap (λ (m : Machine). m.starts) c.draft.view_is)
    (ap (λ xs. map decoded_option xs) (c.in_ok-accepted.ensures.items ∙ c.deref-3.ensures.value) ∙ ap (λ (m : Machine). m.accepted) c.draft.view_is)
    (omega arith))

pub returns-clause-classes : goal.returns-clause-classes
returns-clause-classes c =
    rw c.of.ensures (
    let n : c.loop-byte.byte ≡ 256 = omega arith in
    let long = c.loop-byte.representatives.ok.0 in
    classed_classes c.args.draft.now c.loop-byte.numbers.items c.loop-byte.representatives.items c.in_ok-targets.targets.items
    (rw c.draft.view_is at c.draft.invariant) (rw n at c.loop-byte.invariant) (rw c.deref.ensures.value at c.in_ok-targets.ensures) _ _ _
    (c.in_ok-starts.ensures.items ∙ c.deref-2.ensures.value ∙ ap (λ (m : Machine). m.starts) c.draft.view_is)
    (ap (λ xs. map decoded_option xs) (c.in_ok-accepted.ensures.items ∙ c.deref-3.ensures.value) ∙ ap (λ (m : Machine). m.accepted) c.draft.view_is)
    (omega arith))

pub returns-clause-steps : goal.returns-clause-steps
returns-clause-steps c =
    rw c.of.ensures (
    let n : c.loop-byte.byte ≡ 256 = omega arith in
    let long = c.loop-byte.representatives.ok.0 in
    classed_steps c.args.draft.now c.loop-byte.numbers.items c.loop-byte.representatives.items c.in_ok-targets.targets.items
    (rw c.draft.view_is at c.draft.invariant) (rw n at c.loop-byte.invariant) (rw c.deref.ensures.value at c.in_ok-targets.ensures) _ _ _
    (c.in_ok-starts.ensures.items ∙ c.deref-2.ensures.value ∙ ap (λ (m : Machine). m.starts) c.draft.view_is)
    (ap (λ xs. map decoded_option xs) (c.in_ok-accepted.ensures.items ∙ c.deref-3.ensures.value) ∙ ap (λ (m : Machine). m.accepted) c.draft.view_is)
    (omega arith))
