use Rattle.std.proofs.Common.{◌≡◌, ◌∙◌, [], ap, sym, List, ℕ, is_some}
use Rattle.std.proofs.lemmas.Bool.{false≢true}
use denote.Ref.{Bor}
use Rattle.lx_spec.specs.views.Sections.{raw_rule_view}
use Rattle.lx_spec.specs.Verdict as plain
use Rattle.lx_spec.specs.views.SymbolTables.{symbols_view}
use Rattle.lx_spec.proofs.Rows.{list_all-map}
use Rattle.lx_spec.proofs.Checking.{fault-here}
use Rattle.lx_spec.proofs.check.check_names.Goals as goal

pub returns-then-are_declared : goal.returns-then-are_declared
returns-then-are_declared c =
    let start_conditions = (symbols_view c.args.symbols.now).start_conditions in
    let all : plain.are_declared start_conditions (plain.fields_in (raw_rule_view c.args.rule.now).prefix) ≡ c.are_declared.result =
    ap (plain.are_declared start_conditions) (sym c.requires.names) ∙ list_all-map (λ name. is_some (plain.condition_number start_conditions name)) (λ (f : Bor (List ℕ)). f.now) c.args.names.now ∙ sym c.are_declared.ensures in
    (λ h. false≢true (sym h ∙ all ∙ c.if-are_declared.true), tt)

pub returns-else-are_declared : goal.returns-else-are_declared
returns-else-are_declared c =
    let start_conditions = (symbols_view c.args.symbols.now).start_conditions in
    let all : plain.are_declared start_conditions (plain.fields_in (raw_rule_view c.args.rule.now).prefix) ≡ c.are_declared.result =
    ap (plain.are_declared start_conditions) (sym c.requires.names) ∙ list_all-map (λ name. is_some (plain.condition_number start_conditions name)) (λ (f : Bor (List ℕ)). f.now) c.args.names.now ∙ sym c.are_declared.ensures in
    λ _. fault-here (symbols_view c.args.symbols.now) (raw_rule_view c.args.rule.now) c.args.is_last plain.prefix_name [] (all ∙ c.if-are_declared.false)
