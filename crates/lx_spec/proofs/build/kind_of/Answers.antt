use Rattle.std.proofs.Common.{◌∙◌, ℕ, Option, ap, sym}
use Rattle.std.specs.Prelude.{unwrap_or}
use Rattle.lx_rules.specs.views.Rules.{names_view}
use Rattle.lx_rules.specs.declared.rule.Kind.TheVariants as kind
use Rattle.lx_spec.specs.views.Actions.{value_view}
use Rattle.lx_spec.specs.Outcome as plain
use Rattle.lx_spec.specs.declared.returned_value.Value.{Value}
use Rattle.lx_spec.proofs.build.kind_of.Goals as goal

pub returns-in-Name : goal.returns-in-Name
returns-in-Name c =
    ap (λ (n : ℕ). kind.Name n) (c.unwrap_or.ensures ∙ ap (λ (o : Option ℕ). unwrap_or o 0) c.place_of.ensures)
    ∙ sym (ap (λ (v : Value). plain.kind_of (names_view c.args.kinds.now.kinds.items) (value_view v)) c.in-Name.is)
