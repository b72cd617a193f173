use Rattle.std.proofs.Common.{◌≡◌, ◌≤◌, ◌++◌, ◌∷◌, [], length, ap, ap₂, sym, ◌∙◌, arith, subst}
use Rattle.std.proofs.lemmas.List.{length-append}
use Rattle.lx_automaton.specs.Lists.{AreEnds, lists_from}
use Rattle.lx_automaton.proofs.KeptLists.{ends_more, lists_more}
use Rattle.lx_automaton.proofs.lists.RuleLists.push.Goals as goal

pub invariant_of-self-in-Ok : goal.invariant_of-self-in-Ok
invariant_of-self-in-Ok c =
    let fields = c.self.inside in
    let list = c.args.list.now in
    let rules = c.extend_from_slice.new.self in
    let end = c.len-end.result in
    let held = rules.ok.0 in
    let more = ap length c.in_ok-extend_from_slice.ensures.items in
    let joined = length-append fields.rules.items list in
    let whole : end ≡ length rules.items = omega (arith, c.len-end.ensures) in
    let later : length fields.rules.items ≤ end = omega arith in
    subst (λ e. AreEnds 0 e (length rules.items)) (sym c.in-Ok.ensures.items)
    (subst (λ n. AreEnds 0 (fields.ends.items ++ end ∷ []) n) whole (ends_more 0 fields.ends.items (length fields.rules.items) end c.self.invariant later))

pub returns-clause-pushed : goal.returns-clause-pushed
returns-clause-pushed c =
    let fields = c.self.inside in
    let list = c.args.list.now in
    let rules = c.extend_from_slice.new.self in
    let end = c.len-end.result in
    let held = rules.ok.0 in
    let whole : end ≡ length rules.items = omega (arith, c.len-end.ensures) in
    ap₂ (λ r e. lists_from r 0 e) c.in_ok-extend_from_slice.ensures.items c.in-Ok.ensures.items
    ∙ lists_more fields.rules.items list 0 fields.ends.items end c.self.invariant (whole ∙ ap length c.in_ok-extend_from_slice.ensures.items)
    ∙ ap (λ l. l ++ list ∷ []) c.self.view_is
