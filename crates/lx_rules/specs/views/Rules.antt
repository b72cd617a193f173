-- The rules and definitions of the code, without their places in memory.
use Rattle.std.specs.Prelude.{ℕ, List, map}
use Rattle.std.specs.Option.{option_map}
use Rattle.std.specs.declared.alloc.Global.{Global}
use Rattle.std.specs.declared.vec.Vec.{Vec}
use Rattle.lx_ere.specs.Regex.{regex_of, reading_of}
use Rattle.lx_rules.specs.Plain.{PlainDefinition, PlainRule}
use Rattle.lx_rules.specs.declared.definition.Definition.{Definition}
use Rattle.lx_rules.specs.declared.rule.Rule.{Rule}

abbrev pub rule_view : Rule → PlainRule
rule_view r = record { line = r.line; conditions = option_map (λ v. v.items) r.conditions; reading = reading_of r.pattern; steps = r.action }

abbrev pub definition_view : Definition → PlainDefinition
definition_view d = record { name = d.name.items; tree = regex_of d.expr }

-- the names of kinds
abbrev pub names_view : List (Vec ℕ Global) → List (List ℕ)
names_view kinds = map (λ k. k.items) kinds
