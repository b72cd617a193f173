-- The steps of rules in the code, without their places in memory.
use Rattle.std.specs.Prelude.{ℕ, List, [], ◌∷◌}
use Rattle.lx_rules.specs.Plain.{StartCondition, PlainRule}
use Rattle.lx_rules.specs.declared.rule.Step.{Step}
use Rattle.lx_spec.specs.Actions.{Action, shared, own}
use Rattle.lx_spec.specs.Outcome.{ResolvedRule, steps_of}

-- the steps of the last of some rules
abbrev pub steps_at_end : List PlainRule → List Step
steps_at_end [] = []
steps_at_end (r ∷ []) = r.steps
steps_at_end (r ∷ s ∷ rules) = steps_at_end (s ∷ rules)

-- the steps of an action, given those of the next rule
abbrev pub steps_before : List StartCondition → List (List ℕ) → Action → List Step → List Step
steps_before start_conditions kinds shared next = next
steps_before start_conditions kinds (own ss) next = steps_of start_conditions kinds ss

-- a resolved rule, with the steps of its action
abbrev pub with_steps : ℕ → ResolvedRule → List Step → PlainRule
with_steps line s steps = record { line = line; conditions = s.conditions; reading = s.reading; steps = steps }
