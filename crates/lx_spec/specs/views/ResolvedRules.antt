-- Resolved rules, in the code, without their places in memory.
use Rattle.std.specs.Option.{option_map}
use Rattle.lx_ere.specs.Regex.{reading_of}
use Rattle.lx_spec.specs.Outcome.{ResolvedRule}
use Rattle.lx_spec.specs.views.Actions.{action_view}
use Rattle.lx_spec.specs.declared.resolved_rule.ResolvedRule.{ResolvedRule as CodeRule}

abbrev pub resolved_view : CodeRule → ResolvedRule
resolved_view r = record { conditions = option_map (λ v. v.items) r.conditions; reading = reading_of r.pattern; action = action_view r.action }
