use Rattle.std.proofs.lemmas.Result.{IfOk-weaker}
use Rattle.std.proofs.Common.{length, ap, ◌∙◌}
use Rattle.lx_automaton.proofs.SameStates.{same_steps_lead}
use Rattle.lx_minimize.proofs.Merged.{equivalent_of, kept_answers, kept_minimal, kept_live}
use Rattle.lx_minimize.proofs.merging.merge.Goals as goal

pub returns-clause-answers : goal.returns-clause-answers
returns-clause-answers c = IfOk-weaker c.with_byte_classes.result _ _ (λ r same_steps.
    kept_answers c.in_ok-draft.draft r c.in_ok-draft.ensures.machine same_steps c.args.automaton.now c.in_ok-draft.ensures.conditions c.in_ok-draft.ensures.answers) c.with_byte_classes.ensures.steps

pub returns-clause-specification : goal.returns-clause-specification
returns-clause-specification c = IfOk-weaker c.with_byte_classes.result _ _ (λ r same_steps spec of.
    equivalent_of spec c.args.automaton.now r of (ap length same_steps.starts ∙ c.in_ok-draft.ensures.conditions)
    (kept_answers c.in_ok-draft.draft r c.in_ok-draft.ensures.machine same_steps c.args.automaton.now c.in_ok-draft.ensures.conditions c.in_ok-draft.ensures.answers)) c.with_byte_classes.ensures.steps

pub returns-clause-minimal : goal.returns-clause-minimal
returns-clause-minimal c = IfOk-weaker c.with_byte_classes.result _ _ (λ r same_steps.
    kept_minimal c.in_ok-draft.draft r c.in_ok-draft.ensures.machine same_steps c.in_ok-draft.ensures.minimal) c.with_byte_classes.ensures.steps

pub returns-clause-live : goal.returns-clause-live
returns-clause-live c = IfOk-weaker c.with_byte_classes.result _ _ (λ r same_steps.
    kept_live c.in_ok-draft.draft r c.in_ok-draft.ensures.machine same_steps c.in_ok-draft.ensures.live) c.with_byte_classes.ensures.steps

pub returns-clause-led_to : goal.returns-clause-led_to
returns-clause-led_to c = IfOk-weaker c.with_byte_classes.result _ _ (λ r same_steps all.
    same_steps_lead c.in_ok-draft.draft r c.in_ok-draft.ensures.machine same_steps (c.in_ok-draft.ensures.led_to all)) c.with_byte_classes.ensures.steps
