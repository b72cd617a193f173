use Rattle.std.proofs.Common.{◌∙◌, ℕ, ap}
use Rattle.lx_spec.specs.RuleLines as plain
use Rattle.lx_spec.specs.views.RuleLines.{prefix_view}
use Rattle.lx_spec.proofs.rule_line.rule_begins.Goals as goal

pub returns : goal.returns
returns c = c.rule_split.ensures ∙ ap (λ (n : ℕ). plain.rule_split n (prefix_view c.args.prefix) c.args.text.now) c.pattern_end-n.ensures.value
