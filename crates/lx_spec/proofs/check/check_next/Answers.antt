use Rattle.std.proofs.Common.{◌≡◌, ◌∙◌, [], ap, sym, subst, List}
use Rattle.lx_spec.specs.Actions as actions
use Rattle.lx_spec.specs.views.Actions.{action_view}
use Rattle.lx_spec.specs.views.Sections.{raw_rule_view}
use Rattle.lx_spec.specs.Verdict.{no_next}
use Rattle.lx_spec.specs.views.SymbolTables.{symbols_view}
use Rattle.lx_spec.proofs.ActionSteps.{one_action}
use Rattle.lx_spec.proofs.Checking.{fault-here}
use Rattle.lx_spec.proofs.check.check_next.Goals as goal

apart : (a : actions.Action) (ss : List actions.Statement) → a ≡ actions.own ss → a ≡ actions.shared → ⊥
apart a ss e f = let both : actions.own ss ≡ actions.shared = sym e ∙ f in cc

pub returns-then-is_last : goal.returns-then-is_last
returns-then-is_last c = λ _. fault-here (symbols_view c.args.symbols.now) (raw_rule_view c.args.rule.now) c.args.is_last no_next []
    (subst (actions.IsAction c.args.rule.now.action.items) (ap action_view c.in-Shared.is) c.requires, c.if-is_last.true)

pub returns-in-Own : goal.returns-in-Own
returns-in-Own c = (
  λ h.
      let e = one_action c.args.rule.now.action.items (action_view c.args.action.now) actions.shared c.requires h.0 in
      let f = ap action_view c.in-Own.is in
      apart (action_view c.args.action.now) _ f e,
  tt,
)
