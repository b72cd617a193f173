use Rattle.std.proofs.Common.{◌∙◌, sym}
use Rattle.std.proofs.lemmas.Simd.{map-map}
use Rattle.lx_rules.specs.Plain.{StartCondition}
use Rattle.lx_rules.specs.views.Conditions.{condition_view}
use Rattle.lx_rules.specs.views.Rules.{names_view}
use Rattle.lx_rules.specs.views.Specs.{spec_view}
use Rattle.lx_cli.specs.CommandLine.{plain_c}
use Rattle.lx_tool.specs.Printing.{condition_names, options_by}
use Rattle.lx_tool.proofs.Obeyed.{named_as}
use Rattle.lx_tool.proofs.printing.named_options.Goals as goal

pub returns-clause-ok : goal.returns-clause-ok
returns-clause-ok c =
    let names = (rw c.deref.ensures.value at c.in_ok-names.ensures) ∙ sym (map-map (λ (condition : StartCondition). condition.name) condition_view c.args.spec.now.conditions.items) in
    named_as c.named.result c.in_ok-options.options (options_by (plain_c c.args.words.now)) (names_view c.in_ok-names.names.items) (condition_names (spec_view c.args.spec.now))
    c.named.ensures c.in_ok-options.ensures.ok names
