use Rattle.std.proofs.Common.{◌≡◌, ◌∙◌, [], List, ℕ, true, false, ap, sym}
use Rattle.std.specs.List.{list_all}
use Rattle.std.proofs.lemmas.Bool.{false≢true}
use denote.Ref.{Bor}
use Rattle.lx_spec.specs.Actions.{is_condition_name}
use Rattle.lx_spec.specs.views.RuleLines.{prefix_view}
use Rattle.lx_spec.specs.views.Sections.{raw_rule_view}
use Rattle.lx_spec.specs.declared.rule_line.RulePrefix.{RulePrefix}
use Rattle.lx_spec.specs.Verdict.{prefix_form, is_prefix}
use Rattle.lx_spec.specs.views.SymbolTables.{symbols_view}
use Rattle.lx_spec.proofs.Rows.{list_all-map}
use Rattle.lx_spec.proofs.Checking.{fault-here}
use Rattle.lx_spec.proofs.check.read_prefix.Goals as goal

pub returns-in-Unclosed-clause-checked : goal.returns-in-Unclosed-clause-checked
returns-in-Unclosed-clause-checked c = λ _. fault-here (symbols_view c.args.symbols.now) (raw_rule_view c.args.rule.now) c.args.is_last prefix_form [] (ap (λ (p : RulePrefix). is_prefix (prefix_view p)) c.in-Unclosed.is)

pub returns-then-are_condition_names-clause-checked : goal.returns-then-are_condition_names-clause-checked
returns-then-are_condition_names-clause-checked c =
    let test : is_prefix (prefix_view c.args.rule.now.prefix) ≡ true =
    ap (λ (p : RulePrefix). is_prefix (prefix_view p)) c.in-Listed.is ∙ ap (list_all is_condition_name) (sym c.in_ok-names-in-Listed.ensures) ∙ list_all-map is_condition_name (λ (f : Bor (List ℕ)). f.now) c.in_ok-names-in-Listed.names.items
    ∙ ap (list_all (λ (f : Bor (List ℕ)). is_condition_name f.now)) (sym c.deref.ensures.value) ∙ sym c.are_condition_names.ensures ∙ c.if-are_condition_names.true in
    (λ h. false≢true (sym h ∙ test), tt)

pub returns-clause-checked : goal.returns-clause-checked
returns-clause-checked c =
    let test : is_prefix (prefix_view c.args.rule.now.prefix) ≡ false =
    ap (λ (p : RulePrefix). is_prefix (prefix_view p)) c.in-Listed.is ∙ ap (list_all is_condition_name) (sym c.in_ok-names-in-Listed.ensures) ∙ list_all-map is_condition_name (λ (f : Bor (List ℕ)). f.now) c.in_ok-names-in-Listed.names.items
    ∙ ap (list_all (λ (f : Bor (List ℕ)). is_condition_name f.now)) (sym c.deref.ensures.value) ∙ sym c.are_condition_names.ensures ∙ c.if-are_condition_names.false in
    λ _. fault-here (symbols_view c.args.symbols.now) (raw_rule_view c.args.rule.now) c.args.is_last prefix_form [] test
