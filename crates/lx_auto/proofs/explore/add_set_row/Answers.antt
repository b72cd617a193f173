use Rattle.std.proofs.Common.{◌≡◌, ◌+◌, refl, inr, sym, ◌∙◌, ap, subst}
use Rattle.std.proofs.lemmas.Result.{err_from_is_err_and}
use Rattle.lx_auto.specs.LeafViews.{leaves_view}
use Rattle.lx_auto.specs.PositionSets.{numbered}
use Rattle.lx_auto.specs.RuleParts.{ArePartsOf}
use Rattle.lx_auto.specs.SetTable.{set_of}
use Rattle.lx_auto.specs.Sets.{AreFollowing, IsEarliestMatched}
use Rattle.lx_auto.specs.Exploring.{start_count}
use Rattle.lx_auto.proofs.SetLists.{set_of_read}
use Rattle.lx_auto.proofs.Reached.{row_of, explored_of, numbered_rules}
use Rattle.lx_auto.proofs.explore.add_set_row.Goals as goal

pub returns-clause-matched : goal.returns-clause-matched
returns-clause-matched c = λ spec tree_of positions.
    let own = c.args.positions.now in
    let rules = numbered tree_of 0 spec.rules in
    let sets = c.args.table.now.sets in
    let long = sets.ok.0 in
    let read : set_of sets.items c.args.number ≡ c.as_slice-set.result.now =
    set_of_read sets.items c.args.number c.index.result.now c.requires.number c.index.ensures ∙ sym c.as_slice-set.ensures in
    let parts = subst (λ n. ArePartsOf c.deref.result.now rules n) (sym c.requires.reads) (subst (λ p. ArePartsOf p rules own.total) (sym c.deref.ensures.value) positions.parts) in
    subst (λ s. IsEarliestMatched rules s c.in-Ok.found.matched) (sym read) (c.in-Ok.ensures.matched spec rules (numbered_rules spec tree_of) parts)

pub returns-clause-explored : goal.returns-clause-explored
returns-clause-explored c = λ spec tree_of positions clear explored.
    let own = c.args.positions.now in
    let rules = numbered tree_of 0 spec.rules in
    let sets = c.args.table.now.sets in
    let long = sets.ok.0 in
    let read : set_of sets.items c.args.number ≡ c.as_slice-set.result.now =
    set_of_read sets.items c.args.number c.index.result.now c.requires.number c.index.ensures ∙ sym c.as_slice-set.ensures in
    let parts = subst (λ n. ArePartsOf c.deref.result.now rules n) (sym c.requires.reads) (subst (λ p. ArePartsOf p rules own.total) (sym c.deref.ensures.value) positions.parts) in
    let n = start_count spec + c.args.number in
    let l = ap leaves_view c.as_slice-leaves.ensures.value in
    let r = c.as_slice-representatives.ensures.value in
    let next = subst (λ s. AreFollowing rules s c.in-Ok.found.next.items) (sym read) (c.in-Ok.ensures.next spec rules (numbered_rules spec tree_of) parts clear) in
    let row = row_of spec tree_of (leaves_view own.leaves.items) (leaves_view c.as_slice-leaves.result.now) own.groups.representatives.items c.as_slice-representatives.result.now
    c.in-Ok.found.next.items c.deref-2.result.now sets.items c.args.targets.now.items n l r c.deref-2.ensures.value positions.leaves
    (inr (c.args.number, c.requires.number, refl, next)) explored in
    explored_of spec tree_of (leaves_view own.leaves.items) (leaves_view c.as_slice-leaves.result.now) own.groups.representatives.items c.as_slice-representatives.result.now
    c.add_row.new.table.sets.items c.add_row.new.targets.items n l r (c.in_ok-add_row.ensures.reached spec tree_of n row) (c.in_ok-add_row.ensures.steps spec tree_of n row)

pub returns-in_err-add_row-clause-many : goal.returns-in_err-add_row-clause-many
returns-in_err-add_row-clause-many c = λ spec tree_of positions clear explored.
    let own = c.args.positions.now in
    let rules = numbered tree_of 0 spec.rules in
    let sets = c.args.table.now.sets in
    let long = sets.ok.0 in
    let read : set_of sets.items c.args.number ≡ c.as_slice-set.result.now =
    set_of_read sets.items c.args.number c.index.result.now c.requires.number c.index.ensures ∙ sym c.as_slice-set.ensures in
    let parts = subst (λ n. ArePartsOf c.deref.result.now rules n) (sym c.requires.reads) (subst (λ p. ArePartsOf p rules own.total) (sym c.deref.ensures.value) positions.parts) in
    let n = start_count spec + c.args.number in
    let l = ap leaves_view c.as_slice-leaves.ensures.value in
    let r = c.as_slice-representatives.ensures.value in
    let next = subst (λ s. AreFollowing rules s c.in-Ok.found.next.items) (sym read) (c.in-Ok.ensures.next spec rules (numbered_rules spec tree_of) parts clear) in
    let row = row_of spec tree_of (leaves_view own.leaves.items) (leaves_view c.as_slice-leaves.result.now) own.groups.representatives.items c.as_slice-representatives.result.now
    c.in-Ok.found.next.items c.deref-2.result.now sets.items c.args.targets.now.items n l r c.deref-2.ensures.value positions.leaves
    (inr (c.args.number, c.requires.number, refl, next)) explored in
    let p = err_from_is_err_and c.from_residual.result c.from_residual.ensures.1 in
    rw (p.1, p.2) (c.in_err-add_row.ensures.many spec tree_of n row)

pub returns-clause-clear_reads : goal.returns-clause-clear_reads
returns-clause-clear_reads c = λ spec tree_of positions clear.
    let own = c.args.positions.now in
    let rules = numbered tree_of 0 spec.rules in
    let parts = subst (λ n. ArePartsOf c.deref.result.now rules n) (sym c.requires.reads) (subst (λ p. ArePartsOf p rules own.total) (sym c.deref.ensures.value) positions.parts) in
    c.in-Ok.ensures.clear_reads spec rules (numbered_rules spec tree_of) parts clear
