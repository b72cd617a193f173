use Rattle.std.proofs.Common.{◌∙◌}
use Rattle.lx_minimize.proofs.Merged.{start_states, made_machine, made_answers, made_minimal, made_live, made_led}
use Rattle.lx_minimize.proofs.quotient.quotient.Goals as goal

pub has_dead_start-dead-requires-clause-states : goal.has_dead_start-dead-requires-clause-states
has_dead_start-dead-requires-clause-states c =
    start_states c.args.automaton.now c.args.m.now _ c.classes-width.ensures.machine c.requires.completion c.starts.ensures

pub starts_of-requires-clause-states : goal.starts_of-requires-clause-states
starts_of-requires-clause-states c =
    start_states c.args.automaton.now c.args.m.now _ c.classes-width.ensures.machine c.requires.completion c.starts-2.ensures

pub of-requires : goal.of-requires
of-requires c =
    let a = c.args.automaton.now in
    let has = rw c.starts.ensures at c.has_dead_start-dead.ensures in
    made_machine a c.args.m.now c.args.p.now _ _ _ c.in_ok-rows.rows.items _ _ c.has_dead_start-dead.result c.classes-width.ensures.machine c.classes-width.ensures.classes c.requires.completion c.requires.sound c.requires.stable
    (rw c.starts-2.ensures at c.in_ok-starts.ensures) c.in_ok-rows.ensures.rows (rw c.deref.ensures.value at c.in_ok-labels.ensures) (rw c.deref-2.ensures.value at c.in_ok-targets.ensures)
    c.in_ok-rows.ensures.count has.dead has.none
    (c.in_ok-classes.ensures.items ∙ c.byte_classes.ensures) c.classes-width.ensures.count

pub returns-clause-answers : goal.returns-clause-answers
returns-clause-answers c =
    rw c.of.ensures (
    let a = c.args.automaton.now in
    let has = rw c.starts.ensures at c.has_dead_start-dead.ensures in
    made_answers a c.args.m.now c.args.p.now _ _ _ c.in_ok-rows.rows.items _ _ c.has_dead_start-dead.result c.classes-width.ensures.machine c.classes-width.ensures.classes c.requires.completion c.requires.sound c.requires.stable
    (rw c.starts-2.ensures at c.in_ok-starts.ensures) c.in_ok-rows.ensures.rows (rw c.deref.ensures.value at c.in_ok-labels.ensures) (rw c.deref-2.ensures.value at c.in_ok-targets.ensures)
    c.in_ok-rows.ensures.count has.dead has.none
    (c.in_ok-classes.ensures.items ∙ c.byte_classes.ensures) c.classes-width.ensures.count)

pub returns-clause-minimal : goal.returns-clause-minimal
returns-clause-minimal c =
    rw c.of.ensures (
    let a = c.args.automaton.now in
    let has = rw c.starts.ensures at c.has_dead_start-dead.ensures in
    made_minimal a c.args.m.now c.args.p.now _ _ _ c.in_ok-rows.rows.items _ _ c.has_dead_start-dead.result c.classes-width.ensures.machine c.classes-width.ensures.classes c.requires.completion c.requires.sound c.requires.stable
    (rw c.starts-2.ensures at c.in_ok-starts.ensures) c.in_ok-rows.ensures.rows (rw c.deref.ensures.value at c.in_ok-labels.ensures) (rw c.deref-2.ensures.value at c.in_ok-targets.ensures)
    c.in_ok-rows.ensures.count has.dead has.none
    (c.in_ok-classes.ensures.items ∙ c.byte_classes.ensures) c.classes-width.ensures.count)

pub returns-clause-live : goal.returns-clause-live
returns-clause-live c =
    rw c.of.ensures (
    let a = c.args.automaton.now in
    let has = rw c.starts.ensures at c.has_dead_start-dead.ensures in
    made_live a c.args.m.now c.args.p.now _ _ _ c.in_ok-rows.rows.items _ _ c.has_dead_start-dead.result c.classes-width.ensures.machine c.classes-width.ensures.classes c.requires.completion c.requires.sound c.requires.stable
    (rw c.starts-2.ensures at c.in_ok-starts.ensures) c.in_ok-rows.ensures.rows (rw c.deref.ensures.value at c.in_ok-labels.ensures) (rw c.deref-2.ensures.value at c.in_ok-targets.ensures)
    c.in_ok-rows.ensures.count has.dead has.none
    (c.in_ok-classes.ensures.items ∙ c.byte_classes.ensures) c.classes-width.ensures.count)

pub returns-clause-led_to : goal.returns-clause-led_to
returns-clause-led_to c =
    rw c.of.ensures (
    let a = c.args.automaton.now in
    let has = rw c.starts.ensures at c.has_dead_start-dead.ensures in
    made_led a c.args.m.now c.args.p.now _ _ _ c.in_ok-rows.rows.items _ _ c.has_dead_start-dead.result c.classes-width.ensures.machine c.classes-width.ensures.classes c.requires.completion c.requires.sound c.requires.stable
    (rw c.starts-2.ensures at c.in_ok-starts.ensures) c.in_ok-rows.ensures.rows (rw c.deref.ensures.value at c.in_ok-labels.ensures) (rw c.deref-2.ensures.value at c.in_ok-targets.ensures)
    c.in_ok-rows.ensures.count has.dead has.none
    (c.in_ok-classes.ensures.items ∙ c.byte_classes.ensures) c.classes-width.ensures.count)
