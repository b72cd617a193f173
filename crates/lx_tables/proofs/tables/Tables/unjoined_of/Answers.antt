use Rattle.std.proofs.Common.{◌≡◌, ◌≤◌, length, arith}
use Rattle.std.proofs.lemmas.List.{length-map}
use Rattle.lx_rules.specs.views.Rules.{rule_view}
use Rattle.lx_rules.specs.views.Specs.{spec_view}
use Rattle.lx_tables.proofs.Made.{made_table, made_of, made_alike, made_led}
use Rattle.lx_tables.proofs.tables.Tables.unjoined_of.Goals as goal

pub of-reordered-requires-clause-machine : goal.of-reordered-requires-clause-machine
of-reordered-requires-clause-machine c =
    let spec = spec_view c.args.spec.now in
    let n = c.in_ok-state_order.state_order in
    let well = c.specs_are_well_formed.ensures c.args.spec.now in
    let held = c.args.spec.now.rules.ok.0 in
    let seen = length-map c.args.spec.now.rules.items rule_view in
    let same : c.len.result ≡ length spec.rules = omega (arith, c.len.ensures) in
    let few : c.len.result ≤ 4096 = (let f = well.few_rules in omega arith) in
    rw (c.in_ok-classes.ensures, c.from-width.ensures, c.classes.ensures.count)
    (made_table c.args.automaton.now n.states.items n.encoded_options.items c.in_ok-starts.starts.items c.in_ok-accepted.accepted.items c.in_ok-targets.targets.items c.len.result
    c.classes.ensures.machine c.classes.ensures.classes c.in_ok-state_order.ensures.met c.in_ok-state_order.ensures.long c.in_ok-starts.ensures c.in_ok-accepted.ensures c.in_ok-targets.ensures few spec c.requires same well).machine

pub of-reordered-requires-clause-classes : goal.of-reordered-requires-clause-classes
of-reordered-requires-clause-classes c =
    let spec = spec_view c.args.spec.now in
    let n = c.in_ok-state_order.state_order in
    let well = c.specs_are_well_formed.ensures c.args.spec.now in
    let held = c.args.spec.now.rules.ok.0 in
    let seen = length-map c.args.spec.now.rules.items rule_view in
    let same : c.len.result ≡ length spec.rules = omega (arith, c.len.ensures) in
    let few : c.len.result ≤ 4096 = (let f = well.few_rules in omega arith) in
    rw (c.in_ok-classes.ensures, c.from-width.ensures, c.classes.ensures.count)
    (made_table c.args.automaton.now n.states.items n.encoded_options.items c.in_ok-starts.starts.items c.in_ok-accepted.accepted.items c.in_ok-targets.targets.items c.len.result
    c.classes.ensures.machine c.classes.ensures.classes c.in_ok-state_order.ensures.met c.in_ok-state_order.ensures.long c.in_ok-starts.ensures c.in_ok-accepted.ensures c.in_ok-targets.ensures few spec c.requires same well).classes

pub of_parts-requires : goal.of_parts-requires
of_parts-requires c =
    let spec = spec_view c.args.spec.now in
    let n = c.in_ok-state_order.state_order in
    let well = c.specs_are_well_formed.ensures c.args.spec.now in
    let held = c.args.spec.now.rules.ok.0 in
    let seen = length-map c.args.spec.now.rules.items rule_view in
    let same : c.len.result ≡ length spec.rules = omega (arith, c.len.ensures) in
    let few : c.len.result ≤ 4096 = (let f = well.few_rules in omega arith) in
    rw (c.of-reordered.ensures, c.in_ok-classes.ensures, c.from-width.ensures, c.classes.ensures.count, c.in_ok-kinds.ensures, c.in_ok-rules.ensures)
    (made_table c.args.automaton.now n.states.items n.encoded_options.items c.in_ok-starts.starts.items c.in_ok-accepted.accepted.items c.in_ok-targets.targets.items c.len.result
    c.classes.ensures.machine c.classes.ensures.classes c.in_ok-state_order.ensures.met c.in_ok-state_order.ensures.long c.in_ok-starts.ensures c.in_ok-accepted.ensures c.in_ok-targets.ensures few spec c.requires same well)

pub returns-clause-tables : goal.returns-clause-tables
returns-clause-tables c =
    let spec = spec_view c.args.spec.now in
    let n = c.in_ok-state_order.state_order in
    let well = c.specs_are_well_formed.ensures c.args.spec.now in
    let held = c.args.spec.now.rules.ok.0 in
    let seen = length-map c.args.spec.now.rules.items rule_view in
    let same : c.len.result ≡ length spec.rules = omega (arith, c.len.ensures) in
    let few : c.len.result ≤ 4096 = (let f = well.few_rules in omega arith) in
    rw (c.of_parts.ensures.parts, c.of-reordered.ensures) (rw (c.in_ok-classes.ensures, c.from-width.ensures, c.classes.ensures.count, c.in_ok-kinds.ensures, c.in_ok-rules.ensures)
    (made_of c.args.automaton.now n.states.items n.encoded_options.items c.in_ok-starts.starts.items c.in_ok-accepted.accepted.items c.in_ok-targets.targets.items c.len.result
    c.classes.ensures.machine c.classes.ensures.classes c.in_ok-state_order.ensures.met c.in_ok-state_order.ensures.long c.in_ok-starts.ensures c.in_ok-accepted.ensures c.in_ok-targets.ensures few spec c.requires same well))

pub returns-clause-answers : goal.returns-clause-answers
returns-clause-answers c =
    let spec = spec_view c.args.spec.now in
    let n = c.in_ok-state_order.state_order in
    let well = c.specs_are_well_formed.ensures c.args.spec.now in
    let held = c.args.spec.now.rules.ok.0 in
    let seen = length-map c.args.spec.now.rules.items rule_view in
    let same : c.len.result ≡ length spec.rules = omega (arith, c.len.ensures) in
    let few : c.len.result ≤ 4096 = (let f = well.few_rules in omega arith) in
    rw (c.of_parts.ensures.parts, c.of-reordered.ensures) (rw (c.in_ok-classes.ensures, c.from-width.ensures, c.classes.ensures.count)
    (made_alike c.args.automaton.now n.states.items n.encoded_options.items c.in_ok-starts.starts.items c.in_ok-accepted.accepted.items c.in_ok-targets.targets.items c.len.result
    c.classes.ensures.machine c.classes.ensures.classes c.in_ok-state_order.ensures.met c.in_ok-state_order.ensures.long c.in_ok-starts.ensures c.in_ok-accepted.ensures c.in_ok-targets.ensures few spec c.requires same well))

pub returns-clause-led_to : goal.returns-clause-led_to
returns-clause-led_to c =
    let spec = spec_view c.args.spec.now in
    let n = c.in_ok-state_order.state_order in
    let well = c.specs_are_well_formed.ensures c.args.spec.now in
    let held = c.args.spec.now.rules.ok.0 in
    let seen = length-map c.args.spec.now.rules.items rule_view in
    let same : c.len.result ≡ length spec.rules = omega (arith, c.len.ensures) in
    let few : c.len.result ≤ 4096 = (let f = well.few_rules in omega arith) in
    rw (c.of_parts.ensures.parts, c.of-reordered.ensures) (rw (c.in_ok-classes.ensures, c.from-width.ensures, c.classes.ensures.count)
    (made_led c.args.automaton.now n.states.items n.encoded_options.items c.in_ok-starts.starts.items c.in_ok-accepted.accepted.items c.in_ok-targets.targets.items c.len.result
    c.classes.ensures.machine c.classes.ensures.classes c.in_ok-state_order.ensures.met c.in_ok-state_order.ensures.long c.in_ok-starts.ensures c.in_ok-accepted.ensures c.in_ok-targets.ensures few spec c.requires same well))
