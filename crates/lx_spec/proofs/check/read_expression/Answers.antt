use Rattle.std.proofs.Common.{◌∷◌, [], Err, ap, inl}
use Rattle.lx_spec.specs.views.Sections.{raw_rule_view}
use Rattle.lx_spec.specs.Verdict.{case_of, reading, undefined, depth}
use Rattle.lx_spec.specs.views.SymbolTables.{symbols_view}
use Rattle.lx_spec.proofs.Checking.{fault-here}
use Rattle.lx_spec.proofs.check.read_expression.Goals as goal

pub returns-in-Err-NoReading-clause-checked : goal.returns-in-Err-NoReading-clause-checked
returns-in-Err-NoReading-clause-checked c =
    let case = case_of (raw_rule_view c.args.rule.now) c.args.is_last in
    λ _. fault-here (symbols_view c.args.symbols.now) (raw_rule_view c.args.rule.now) c.args.is_last reading (case undefined ∷ case depth ∷ [])
    (inl (λ r. c.in-Err-NoReading.ensures.refused (ap Err c.in-Err-NoReading.field-0-is) r))
