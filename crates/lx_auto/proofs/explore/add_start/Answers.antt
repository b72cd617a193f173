use Rattle.std.proofs.Common.{refl, inl, sym, ap, subst}
use Rattle.std.proofs.lemmas.Result.{err_from_is_err_and}
use Rattle.lx_rules.specs.views.Specs.{spec_view}
use Rattle.lx_auto.specs.LeafViews.{leaves_view}
use Rattle.lx_auto.specs.PositionSets.{numbered}
use Rattle.lx_auto.specs.RuleParts.{ArePartsOf}
use Rattle.lx_rules.specs.Starts.{AreActive}
use Rattle.lx_auto.specs.Exploring.{start_number}
use Rattle.lx_auto.proofs.Reached.{row_of, explored_of, numbered_rules}
use Rattle.lx_auto.proofs.explore.add_start.Goals as goal

pub returns-clause-explored : goal.returns-clause-explored
returns-clause-explored c = λ tree_of positions explored.
    let spec = spec_view c.args.spec.now in
    let own = c.args.positions.now in
    let rules = numbered tree_of 0 spec.rules in
    let n = start_number c.args.condition c.args.at_line_begin in
    let l = ap leaves_view c.as_slice-leaves.ensures.value in
    let r = c.as_slice-representatives.ensures.value in
    let parts = subst (λ p. ArePartsOf p rules own.total) (sym c.deref.ensures.value) positions.parts in
    let active = subst (λ a. AreActive spec c.args.condition c.args.at_line_begin a) (sym c.deref-2.ensures.value) c.in-Ok.ensures in
    let first = c.in-Ok-begin.ensures spec c.args.condition c.args.at_line_begin rules (numbered_rules spec tree_of) parts active in
    let row = row_of spec tree_of (leaves_view own.leaves.items) (leaves_view c.as_slice-leaves.result.now) own.groups.representatives.items c.as_slice-representatives.result.now
    c.in-Ok-begin.first.items c.deref-3.result.now c.args.table.now.sets.items c.args.targets.now.items n l r c.deref-3.ensures.value positions.leaves
    (inl (c.args.condition, c.args.at_line_begin, c.requires.condition, refl, first)) explored in
    explored_of spec tree_of (leaves_view own.leaves.items) (leaves_view c.as_slice-leaves.result.now) own.groups.representatives.items c.as_slice-representatives.result.now
    c.add_row.new.table.sets.items c.add_row.new.targets.items n l r (c.in_ok-add_row.ensures.reached spec tree_of n row) (c.in_ok-add_row.ensures.steps spec tree_of n row)

pub returns-in_err-add_row-clause-many : goal.returns-in_err-add_row-clause-many
returns-in_err-add_row-clause-many c = λ tree_of positions explored.
    let spec = spec_view c.args.spec.now in
    let own = c.args.positions.now in
    let rules = numbered tree_of 0 spec.rules in
    let n = start_number c.args.condition c.args.at_line_begin in
    let l = ap leaves_view c.as_slice-leaves.ensures.value in
    let r = c.as_slice-representatives.ensures.value in
    let parts = subst (λ p. ArePartsOf p rules own.total) (sym c.deref.ensures.value) positions.parts in
    let active = subst (λ a. AreActive spec c.args.condition c.args.at_line_begin a) (sym c.deref-2.ensures.value) c.in-Ok.ensures in
    let first = c.in-Ok-begin.ensures spec c.args.condition c.args.at_line_begin rules (numbered_rules spec tree_of) parts active in
    let row = row_of spec tree_of (leaves_view own.leaves.items) (leaves_view c.as_slice-leaves.result.now) own.groups.representatives.items c.as_slice-representatives.result.now
    c.in-Ok-begin.first.items c.deref-3.result.now c.args.table.now.sets.items c.args.targets.now.items n l r c.deref-3.ensures.value positions.leaves
    (inl (c.args.condition, c.args.at_line_begin, c.requires.condition, refl, first)) explored in
    let p = err_from_is_err_and c.from_residual.result c.from_residual.ensures.1 in
    rw (p.1, p.2) (c.in_err-add_row.ensures.many spec tree_of n row)
