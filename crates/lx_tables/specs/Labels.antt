-- The kind of an item, as a number: 1 for an echo, and above that a kind of tokens. 0 represents no item.
use Rattle.std.specs.Prelude.{ℕ, ◌-◌, ◌/◌, ◌%◌, nat_eq, nat_le, if◌then◌else◌, Option, Some, None}
use Rattle.lx_rules.specs.declared.rule.Kind.{Kind}
use Rattle.lx_rules.specs.declared.rule.Kind.TheVariants.{Name, Number}
use Rattle.lx_rules.specs.declared.rule.Step.{Step}
use Rattle.lx_rules.specs.declared.rule.Step.TheVariants.{Echo, Return}

-- the kind of a token; an echo has none
abbrev pub kind_of_label : ℕ → Option Kind
kind_of_label label = if nat_le label 1 then None else Some (if nat_eq (label % 2) 0 then Number ((label / 2 - 1) % 4294967296) else Name ((label / 2 - 1) % 4294967296))

-- the step that gives such an item
abbrev pub step_of_kind : Option Kind → Step
step_of_kind None = Echo
step_of_kind (Some kind) = Return kind

abbrev pub step_of_label : ℕ → Option Step
step_of_label label = if nat_eq label 0 then None else Some (step_of_kind (kind_of_label label))
