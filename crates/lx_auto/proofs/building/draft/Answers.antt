use Rattle.std.proofs.Common.{◌≡◌, length, subst, arith}
use Rattle.std.proofs.lemmas.List.{length-map}
use Rattle.std.proofs.lemmas.Result.{err_from_is_err_and}
use Rattle.lx_rules.specs.views.Conditions.{condition_view}
use Rattle.lx_rules.specs.views.Specs.{spec_view}
use Rattle.lx_auto.specs.Drafting.{IsDrafted}
use Rattle.lx_auto.specs.LeafViews.{leaves_view}
use Rattle.lx_auto.specs.Simplified.{simplified_pattern}
use Rattle.lx_auto.proofs.AllLedTo.{all_led_to}
use Rattle.lx_auto.proofs.DraftAnswers.{matched_below, draft_answers}
use Rattle.lx_auto.proofs.DraftMachine.{targets_below, draft_machine, state_count_is}
use Rattle.lx_auto.proofs.MoreSets.{more_reached}
use Rattle.lx_auto.proofs.NoMoreSets.{no_more}
use Rattle.lx_auto.proofs.RuleAnswers.{sound_patterns}
use Rattle.lx_auto.proofs.building.draft.Goals as goal

pub returns-in_err-explored-clause-sets : goal.returns-in_err-explored-clause-sets
returns-in_err-explored-clause-sets c =
    let spec = spec_view c.args.spec.now in
    let p = err_from_is_err_and c.from_residual-in_err-explored.result c.from_residual-in_err-explored.ensures.1 in
    rw (p.1, p.2) (λ is. (
      c.in_ok-positions.ensures.few,
      more_reached spec 16384 (c.in_err-explored.ensures.many (simplified_pattern spec.definitions) c.in_ok-positions.ensures.stands is),
    ))

pub draft_of-requires-clause-rules : goal.draft_of-requires-clause-rules
draft_of-requires-clause-rules c =
    let spec = spec_view c.args.spec.now in
    let table = c.in_ok-positions.positions in
    let found = c.in_ok-explored.explored in
    let stands = c.in_ok-positions.ensures.stands in
    let states = c.in_ok-explored.ensures.explored (simplified_pattern spec.definitions) stands in
    matched_below spec (leaves_view table.leaves.items) table.groups.classes.items table.groups.representatives.items found.table.sets.items found.matched.items found.targets.items
    stands.leaves stands.groups states.steps states.matched 4096 ((c.specs_are_well_formed.ensures c.args.spec.now).few_rules)

pub draft_of-requires-clause-sets : goal.draft_of-requires-clause-sets
draft_of-requires-clause-sets c =
    let spec = spec_view c.args.spec.now in
    let table = c.in_ok-positions.positions in
    let found = c.in_ok-explored.explored in
    let stands = c.in_ok-positions.ensures.stands in
    let states = c.in_ok-explored.ensures.explored (simplified_pattern spec.definitions) stands in
    targets_below spec (leaves_view table.leaves.items) table.groups.classes.items table.groups.representatives.items found.table.sets.items found.matched.items found.targets.items
    stands.groups states.steps states.matched.long 16384 c.in_ok-explored.ensures.room

pub draft_of-requires-clause-machine : goal.draft_of-requires-clause-machine
draft_of-requires-clause-machine c = λ m drafted.
    let spec = spec_view c.args.spec.now in
    let table = c.in_ok-positions.positions in
    let found = c.in_ok-explored.explored in
    let stands = c.in_ok-positions.ensures.stands in
    let states = c.in_ok-explored.ensures.explored (simplified_pattern spec.definitions) stands in
    let well = c.specs_are_well_formed.ensures c.args.spec.now in
    let held = c.args.spec.now.conditions.ok.0 in
    let seen = length-map c.args.spec.now.conditions.items condition_view in
    let conditions : c.len.result ≡ length spec.conditions = omega (arith, c.len.ensures) in
    draft_machine spec (leaves_view table.leaves.items) table.groups.classes.items table.groups.representatives.items found.table.sets.items found.matched.items found.targets.items
    stands.groups states.steps states.matched.long m (subst (λ n. IsDrafted n table.groups.classes.items (length table.groups.representatives.items) found.matched.items found.targets.items m) conditions drafted)
    well.some_conditions well.few_conditions
    (matched_below spec (leaves_view table.leaves.items) table.groups.classes.items table.groups.representatives.items found.table.sets.items found.matched.items found.targets.items
    stands.leaves stands.groups states.steps states.matched 4096 well.few_rules) c.in_ok-explored.ensures.room

pub returns-clause-automaton : goal.returns-clause-automaton
returns-clause-automaton c =
    let spec = spec_view c.args.spec.now in
    let table = c.in_ok-positions.positions in
    let found = c.in_ok-explored.explored in
    let stands = c.in_ok-positions.ensures.stands in
    let states = c.in_ok-explored.ensures.explored (simplified_pattern spec.definitions) stands in
    let held = c.args.spec.now.conditions.ok.0 in
    let seen = length-map c.args.spec.now.conditions.items condition_view in
    let conditions : c.len.result ≡ length spec.conditions = omega (arith, c.len.ensures) in
    draft_answers spec (leaves_view table.leaves.items) table.groups.classes.items table.groups.representatives.items found.table.sets.items found.matched.items found.targets.items
    stands.leaves stands.groups states.steps states.matched c.in_ok-draft.draft
    (subst (λ n. IsDrafted n table.groups.classes.items (length table.groups.representatives.items) found.matched.items found.targets.items c.in_ok-draft.draft) conditions c.in_ok-draft.ensures) (sound_patterns spec (c.specs_are_well_formed.ensures c.args.spec.now))

pub returns-clause-few_sets : goal.returns-clause-few_sets
returns-clause-few_sets c =
    let spec = spec_view c.args.spec.now in
    let table = c.in_ok-positions.positions in
    let found = c.in_ok-explored.explored in
    let stands = c.in_ok-positions.ensures.stands in
    let states = c.in_ok-explored.ensures.explored (simplified_pattern spec.definitions) stands in
    let held = c.args.spec.now.conditions.ok.0 in
    let seen = length-map c.args.spec.now.conditions.items condition_view in
    let conditions : c.len.result ≡ length spec.conditions = omega (arith, c.len.ensures) in
    no_more spec (leaves_view table.leaves.items) table.groups.classes.items table.groups.representatives.items found.table.sets.items found.matched.items found.targets.items c.in_ok-draft.draft
    stands.leaves stands.groups states.steps
    (subst (λ n. IsDrafted n table.groups.classes.items (length table.groups.representatives.items) found.matched.items found.targets.items c.in_ok-draft.draft) conditions c.in_ok-draft.ensures) 16384 c.in_ok-explored.ensures.room

pub returns-clause-led_to : goal.returns-clause-led_to
returns-clause-led_to c =
    let spec = spec_view c.args.spec.now in
    let table = c.in_ok-positions.positions in
    let found = c.in_ok-explored.explored in
    let stands = c.in_ok-positions.ensures.stands in
    let states = c.in_ok-explored.ensures.explored (simplified_pattern spec.definitions) stands in
    let held = c.args.spec.now.conditions.ok.0 in
    let seen = length-map c.args.spec.now.conditions.items condition_view in
    let conditions : c.len.result ≡ length spec.conditions = omega (arith, c.len.ensures) in
    let drafted = subst (λ n. IsDrafted n table.groups.classes.items (length table.groups.representatives.items) found.matched.items found.targets.items c.in_ok-draft.draft) conditions c.in_ok-draft.ensures in
    all_led_to spec (leaves_view table.leaves.items) table.groups.classes.items table.groups.representatives.items found.table.sets.items found.matched.items found.targets.items c.in_ok-draft.draft
    stands.leaves stands.groups states.steps drafted
    (state_count_is spec (leaves_view table.leaves.items) table.groups.classes.items table.groups.representatives.items found.table.sets.items found.matched.items found.targets.items
    stands.groups states.steps states.matched.long c.in_ok-draft.draft drafted)
