use Rattle.std.proofs.Common.{◌≡◌, ◌∙◌, length, sym, ap, subst, arith}
use Rattle.std.proofs.lemmas.List.{length-map}
use Rattle.std.proofs.lemmas.Result.{err_from_is_err_and}
use Rattle.lx_rules.specs.views.Conditions.{condition_view}
use Rattle.lx_rules.specs.views.Specs.{spec_view}
use Rattle.lx_automaton.specs.Lists.{IsListAutomatonOf}
use Rattle.lx_auto.specs.Drafting.{IsDrafted}
use Rattle.lx_auto.specs.LeafViews.{leaves_view}
use Rattle.lx_auto.specs.RuleLists.{plain_lists}
use Rattle.lx_auto.specs.Simplified.{simplified_pattern}
use Rattle.lx_auto.specs.declared.fault.BuildFault.TheVariants.{TooManySets}
use Rattle.lx_auto.proofs.AllLedTo.{all_led_to}
use Rattle.lx_auto.proofs.DraftMachine.{targets_below, draft_machine, state_count_is}
use Rattle.lx_auto.proofs.ListDrafts.{count_of_rules, more_text_lists, numbers_below, list_automaton}
use Rattle.lx_auto.proofs.ListedSets.{numbered_differ}
use Rattle.lx_auto.proofs.MoreSets.{more_reached}
use Rattle.lx_auto.proofs.RuleAnswers.{sound_patterns}
use Rattle.lx_auto.proofs.list_building.draft_lists.Goals as goal

pub returns-in_err-explored-clause-sets : goal.returns-in_err-explored-clause-sets
returns-in_err-explored-clause-sets c =
    let spec = spec_view c.args.spec.now in
    let p = err_from_is_err_and c.from_residual-in_err-explored.result c.from_residual-in_err-explored.ensures.1 in
    rw (p.1, p.2) (λ is.
    let many : c.in_err-explored.field-0.0 ≡ TooManySets = cc in (
      c.in_ok-positions.ensures.few,
      more_reached spec 16384 (c.in_err-explored.ensures.many (simplified_pattern spec.definitions) c.in_ok-positions.ensures.stands many),
    ))

pub list_rules-requires-clause-few : goal.list_rules-requires-clause-few
list_rules-requires-clause-few c =
    let spec = spec_view c.args.spec.now in
    let long = c.in_ok-positions.ensures.stands.parts.long in
    let count = count_of_rules (simplified_pattern spec.definitions) 0 spec.rules in
    let few = (c.specs_are_well_formed.ensures c.args.spec.now).few_rules in
    omega arith

pub returns-in_err-listed-clause-many : goal.returns-in_err-listed-clause-many
returns-in_err-listed-clause-many c =
    let spec = spec_view c.args.spec.now in
    let table = c.in_ok-positions.positions in
    let found = c.in_ok-explored.explored in
    let stands = c.in_ok-positions.ensures.stands in
    let states = c.in_ok-explored.ensures.explored (simplified_pattern spec.definitions) stands in
    let sound = sound_patterns spec (c.specs_are_well_formed.ensures c.args.spec.now) in
    let p = err_from_is_err_and c.from_residual-in_err-listed.result c.from_residual-in_err-listed.ensures.1 in
    rw (p.1, p.2) (λ is.
    more_text_lists spec sound (leaves_view table.leaves.items) table.groups.classes.items table.groups.representatives.items found.table.sets.items found.targets.items states.steps 4096
    (c.in_err-listed.ensures.many spec (simplified_pattern spec.definitions) stands states.matched is))

pub draft_of-requires-clause-rules : goal.draft_of-requires-clause-rules
draft_of-requires-clause-rules c =
    let spec = spec_view c.args.spec.now in
    let table = c.in_ok-positions.positions in
    let found = c.in_ok-explored.explored in
    let stands = c.in_ok-positions.ensures.stands in
    let states = c.in_ok-explored.ensures.explored (simplified_pattern spec.definitions) stands in
    let sound = sound_patterns spec (c.specs_are_well_formed.ensures c.args.spec.now) in
    let lists = c.in_ok-listed.listed.lists.sets.items in
    let numbers = c.in_ok-listed.listed.numbers.items in
    let listed = c.in_ok-listed.ensures.listed spec (simplified_pattern spec.definitions) stands states.matched in
    numbers_below spec sound (leaves_view table.leaves.items) table.groups.classes.items table.groups.representatives.items found.table.sets.items found.targets.items states.steps lists numbers listed 4096
    c.in_ok-listed.ensures.table.room

pub draft_of-requires-clause-sets : goal.draft_of-requires-clause-sets
draft_of-requires-clause-sets c =
    let spec = spec_view c.args.spec.now in
    let table = c.in_ok-positions.positions in
    let found = c.in_ok-explored.explored in
    let stands = c.in_ok-positions.ensures.stands in
    let states = c.in_ok-explored.ensures.explored (simplified_pattern spec.definitions) stands in
    let lists = c.in_ok-listed.listed.lists.sets.items in
    let numbers = c.in_ok-listed.listed.numbers.items in
    let listed = c.in_ok-listed.ensures.listed spec (simplified_pattern spec.definitions) stands states.matched in
    targets_below spec (leaves_view table.leaves.items) table.groups.classes.items table.groups.representatives.items found.table.sets.items numbers found.targets.items stands.groups states.steps listed.long 16384
    c.in_ok-explored.ensures.room

pub draft_of-requires-clause-machine : goal.draft_of-requires-clause-machine
draft_of-requires-clause-machine c = λ m drafted.
    let spec = spec_view c.args.spec.now in
    let table = c.in_ok-positions.positions in
    let found = c.in_ok-explored.explored in
    let stands = c.in_ok-positions.ensures.stands in
    let states = c.in_ok-explored.ensures.explored (simplified_pattern spec.definitions) stands in
    let sound = sound_patterns spec (c.specs_are_well_formed.ensures c.args.spec.now) in
    let lists = c.in_ok-listed.listed.lists.sets.items in
    let numbers = c.in_ok-listed.listed.numbers.items in
    let listed = c.in_ok-listed.ensures.listed spec (simplified_pattern spec.definitions) stands states.matched in
    let well = c.specs_are_well_formed.ensures c.args.spec.now in
    let held = c.args.spec.now.conditions.ok.0 in
    let seen = length-map c.args.spec.now.conditions.items condition_view in
    let conditions : c.len.result ≡ length spec.conditions = omega (arith, c.len.ensures) in
    draft_machine spec (leaves_view table.leaves.items) table.groups.classes.items table.groups.representatives.items found.table.sets.items numbers found.targets.items stands.groups states.steps listed.long m
    (subst (λ n. IsDrafted n table.groups.classes.items (length table.groups.representatives.items) numbers found.targets.items m) conditions drafted) well.some_conditions well.few_conditions
    (numbers_below spec sound (leaves_view table.leaves.items) table.groups.classes.items table.groups.representatives.items found.table.sets.items found.targets.items states.steps lists numbers listed 4096
    c.in_ok-listed.ensures.table.room) c.in_ok-explored.ensures.room

pub returns-clause-automaton : goal.returns-clause-automaton
returns-clause-automaton c =
    let spec = spec_view c.args.spec.now in
    let table = c.in_ok-positions.positions in
    let found = c.in_ok-explored.explored in
    let stands = c.in_ok-positions.ensures.stands in
    let states = c.in_ok-explored.ensures.explored (simplified_pattern spec.definitions) stands in
    let sound = sound_patterns spec (c.specs_are_well_formed.ensures c.args.spec.now) in
    let lists = c.in_ok-listed.listed.lists.sets.items in
    let numbers = c.in_ok-listed.listed.numbers.items in
    let listed = c.in_ok-listed.ensures.listed spec (simplified_pattern spec.definitions) stands states.matched in
    let held = c.args.spec.now.conditions.ok.0 in
    let seen = length-map c.args.spec.now.conditions.items condition_view in
    let conditions : c.len.result ≡ length spec.conditions = omega (arith, c.len.ensures) in
    let drafted = subst (λ n. IsDrafted n table.groups.classes.items (length table.groups.representatives.items) numbers found.targets.items c.in_ok-draft.draft) conditions c.in_ok-draft.ensures in
    subst (λ l. IsListAutomatonOf spec c.in_ok-draft.draft l) (sym (c.in_ok-lists.ensures ∙ ap plain_lists c.deref.ensures.value))
    (list_automaton spec sound (leaves_view table.leaves.items) table.groups.classes.items table.groups.representatives.items found.table.sets.items found.targets.items states.steps lists numbers listed
    stands.leaves stands.groups c.in_ok-draft.draft drafted (numbered_differ lists c.in_ok-listed.listed.lists.numbers c.in_ok-listed.ensures.table.numbering))

pub returns-clause-led_to : goal.returns-clause-led_to
returns-clause-led_to c =
    let spec = spec_view c.args.spec.now in
    let table = c.in_ok-positions.positions in
    let found = c.in_ok-explored.explored in
    let stands = c.in_ok-positions.ensures.stands in
    let states = c.in_ok-explored.ensures.explored (simplified_pattern spec.definitions) stands in
    let lists = c.in_ok-listed.listed.lists.sets.items in
    let numbers = c.in_ok-listed.listed.numbers.items in
    let listed = c.in_ok-listed.ensures.listed spec (simplified_pattern spec.definitions) stands states.matched in
    let held = c.args.spec.now.conditions.ok.0 in
    let seen = length-map c.args.spec.now.conditions.items condition_view in
    let conditions : c.len.result ≡ length spec.conditions = omega (arith, c.len.ensures) in
    let drafted = subst (λ n. IsDrafted n table.groups.classes.items (length table.groups.representatives.items) numbers found.targets.items c.in_ok-draft.draft) conditions c.in_ok-draft.ensures in
    all_led_to spec (leaves_view table.leaves.items) table.groups.classes.items table.groups.representatives.items found.table.sets.items numbers found.targets.items c.in_ok-draft.draft
    stands.leaves stands.groups states.steps drafted
    (state_count_is spec (leaves_view table.leaves.items) table.groups.classes.items table.groups.representatives.items found.table.sets.items numbers found.targets.items
    stands.groups states.steps listed.long c.in_ok-draft.draft drafted)
