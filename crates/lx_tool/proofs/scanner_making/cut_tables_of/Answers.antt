use Rattle.std.proofs.Common.{rules, ◌≡◌, ◌∙◌, length, map}
use Rattle.std.proofs.lemmas.List.{length-map}
use Rattle.lx_lex.specs.Cuts.{IsCutSpec}
use Rattle.lx_lex.specs.views.{file_rule}
use Rattle.lx_rules.specs.views.Rules.{rule_view}
use Rattle.lx_rules.specs.views.Specs.{spec_view}
use Rattle.lx_tool.proofs.CutRules.{no-parts}
use Rattle.lx_tool.proofs.scanner_making.cut_tables_of.Goals as goal

pub returns-then-is_empty : goal.returns-then-is_empty
returns-then-is_empty c =
    let of : IsCutSpec (map file_rule c.args.rules.now) (spec_view c.in-Some.spec) = search rules in
    let none : length c.in-Some.spec.rules.items ≡ 0 = search rules in
    no-parts (map file_rule c.args.rules.now) (spec_view c.in-Some.spec) of (length-map c.in-Some.spec.rules.items rule_view ∙ none)
