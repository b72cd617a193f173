use Rattle.std.proofs.Common.{ap, length}
use Rattle.lx_rules.specs.views.Specs.{spec_view}
use Rattle.lx_automaton.proofs.ListAnswers.{equal_answers}
use Rattle.lx_automaton.proofs.SameAnswers.{same_answers}
use Rattle.lx_automaton.proofs.SameStates.{same_steps_lead}
use Rattle.lx_auto.proofs.list_building.build_lists.Goals as goal

-- the answers of the draft, of the automaton over byte classes and of the merged one are equal
pub returns-clause-automaton : goal.returns-clause-automaton
returns-clause-automaton c =
    let spec = spec_view c.args.spec.now in
    let draft = c.in_ok-drafted.drafted.draft in
    let lists = c.in_ok-drafted.drafted.lists in
    let is = c.in_ok-drafted.ensures.machine in
    let same_steps = c.in_ok-built.ensures.steps in
    equal_answers spec c.in_ok-built.built c.in_ok-automaton.automaton lists c.in_ok-automaton.ensures.conditions c.in_ok-automaton.ensures.answers.answers
    (equal_answers spec draft c.in_ok-built.built lists (ap length same_steps.starts) (same_answers draft c.in_ok-built.built is same_steps) c.in_ok-drafted.ensures.automaton)

pub returns-clause-led_to : goal.returns-clause-led_to
returns-clause-led_to c =
    c.in_ok-automaton.ensures.led_to (same_steps_lead c.in_ok-drafted.drafted.draft c.in_ok-built.built c.in_ok-drafted.ensures.machine c.in_ok-built.ensures.steps c.in_ok-drafted.ensures.led_to)
