use Rattle.std.proofs.Common.{◌≡◌, [], length, ap, ap₂, sym, ◌∙◌, arith, subst}
use Rattle.std.specs.Prelude.{slice_index_or}
use Rattle.lx_automaton.specs.Lists.{AreEnds, lists_from}
use Rattle.lx_automaton.proofs.KeptLists.{count_of_lists}
use Rattle.lx_automaton.proofs.lists.RuleLists.list.Goals as goal

pub list_at-requires-clause-ends : goal.list_at-requires-clause-ends
list_at-requires-clause-ends c =
    subst (λ e. AreEnds 0 e (length c.deref.result.now)) (sym c.deref-2.ensures.value)
    (subst (λ r. AreEnds 0 c.self.inside.ends.items (length r)) (sym c.deref.ensures.value) c.self.invariant)

pub list_at-requires-clause-number : goal.list_at-requires-clause-number
list_at-requires-clause-number c =
    let fields = c.self.inside in
    let count = count_of_lists fields.rules.items 0 fields.ends.items in
    let view : length (lists_from fields.rules.items 0 fields.ends.items) ≡ length c.args.self.now = ap length c.self.view_is in
    let same = ap length c.deref-2.ensures.value in
    omega arith

pub returns : goal.returns
returns c =
    c.list_at.ensures ∙ ap₂ (λ r e. slice_index_or (lists_from r 0 e) c.args.number []) c.deref.ensures.value c.deref-2.ensures.value
    ∙ ap (λ l. slice_index_or l c.args.number []) c.self.view_is
