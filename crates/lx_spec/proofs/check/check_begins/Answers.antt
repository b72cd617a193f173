use Rattle.std.proofs.Common.{◌≡◌, ◌∙◌, [], ap, sym, subst, List, Bool, true, false}
use Rattle.std.specs.List.{list_all}
use Rattle.std.proofs.lemmas.Bool.{false≢true}
use Rattle.lx_spec.specs.Actions as actions
use Rattle.lx_spec.specs.views.Actions.{action_view, statement_view, statements_view}
use Rattle.lx_spec.specs.declared.action.Statement.{Statement}
use Rattle.lx_spec.specs.views.Sections.{raw_rule_view}
use Rattle.lx_spec.specs.Verdict.{begin_name, begin_is_declared}
use Rattle.lx_spec.specs.views.SymbolTables.{symbols_view}
use Rattle.lx_spec.proofs.ActionSteps.{one_action}
use Rattle.lx_spec.proofs.Rows.{list_all-map}
use Rattle.lx_spec.proofs.Checking.{fault-here}
use Rattle.lx_spec.proofs.check.check_begins.Goals as goal

same_own : (ss ts : List actions.Statement) → actions.own ss ≡ actions.own ts → ss ≡ ts
same_own ss ts e = cc

pub returns-in-Shared : goal.returns-in-Shared
returns-in-Shared c = (λ h. let e = one_action c.args.rule.now.action.items (action_view c.args.action.now) (actions.own h.0) c.requires.action h.1 in let f = ap action_view c.in-Shared.is in let both : actions.shared ≡ actions.own h.0 = sym f ∙ e in cc, tt)

pub returns-then-all_begin_declared : goal.returns-then-all_begin_declared
returns-then-all_begin_declared c =
    let p : actions.Statement → Bool = begin_is_declared (symbols_view c.args.symbols.now).start_conditions in
    let all : list_all p (statements_view c.in-Own.statements.items) ≡ true =
    list_all-map p statement_view c.in-Own.statements.items ∙ ap (list_all (λ (s : Statement). p (statement_view s))) (sym c.deref.ensures.value) ∙ sym c.all_begin_declared.ensures ∙ c.if-all_begin_declared.true in (
      λ h.
          let e = sym (ap action_view c.in-Own.is) ∙ one_action c.args.rule.now.action.items (action_view c.args.action.now) (actions.own h.0) c.requires.action h.1 in
          false≢true (sym h.2 ∙ ap (list_all p) (sym (same_own (statements_view c.in-Own.statements.items) h.0 e)) ∙ all),
      tt,
    )

pub returns-else-all_begin_declared : goal.returns-else-all_begin_declared
returns-else-all_begin_declared c =
    let p : actions.Statement → Bool = begin_is_declared (symbols_view c.args.symbols.now).start_conditions in
    let all : list_all p (statements_view c.in-Own.statements.items) ≡ false =
    list_all-map p statement_view c.in-Own.statements.items ∙ ap (list_all (λ (s : Statement). p (statement_view s))) (sym c.deref.ensures.value) ∙ sym c.all_begin_declared.ensures ∙ c.if-all_begin_declared.false in
    λ _. fault-here (symbols_view c.args.symbols.now) (raw_rule_view c.args.rule.now) c.args.is_last begin_name []
    (statements_view c.in-Own.statements.items, subst (actions.IsAction c.args.rule.now.action.items) (ap action_view c.in-Own.is) c.requires.action, all)
