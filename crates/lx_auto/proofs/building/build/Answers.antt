use Rattle.lx_rules.specs.views.Specs.{spec_view}
use Rattle.lx_automaton.proofs.SameStates.{same_steps_lead}
use Rattle.lx_auto.proofs.DraftAnswers.{same_steps_answers}
use Rattle.lx_auto.proofs.building.build.Goals as goal

pub returns-clause-automaton : goal.returns-clause-automaton
returns-clause-automaton c =
    same_steps_answers (spec_view c.args.spec.now) c.in_ok-draft.draft _ c.in_ok-draft.ensures.machine c.in_ok-automaton.ensures.steps c.in_ok-draft.ensures.automaton

pub returns-clause-led_to : goal.returns-clause-led_to
returns-clause-led_to c = same_steps_lead c.in_ok-draft.draft _ c.in_ok-draft.ensures.machine c.in_ok-automaton.ensures.steps c.in_ok-draft.ensures.led_to
