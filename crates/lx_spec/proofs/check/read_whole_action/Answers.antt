use Rattle.std.proofs.Common.{[], subst, sym}
use Rattle.lx_spec.specs.Actions.{IsAction}
use Rattle.lx_spec.specs.views.Sections.{raw_rule_view}
use Rattle.lx_spec.specs.Verdict.{action_form}
use Rattle.lx_spec.specs.views.SymbolTables.{symbols_view}
use Rattle.lx_spec.proofs.Checking.{fault-here}
use Rattle.lx_spec.proofs.check.read_whole_action.Goals as goal

pub returns-in-None-clause-checked : goal.returns-in-None-clause-checked
returns-in-None-clause-checked c =
    let never = rw c.in-None.is at c.in_ok-action.ensures in
    λ _. fault-here (symbols_view c.args.symbols.now) (raw_rule_view c.args.rule.now) c.args.is_last action_form [] (λ a is. never a (subst (λ text. IsAction text a) (sym c.deref.ensures.value) is))
