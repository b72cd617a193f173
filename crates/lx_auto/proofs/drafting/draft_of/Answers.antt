use Rattle.std.proofs.Common.{◌≡◌, length, ◌∙◌, arith, subst, sym}
use Rattle.lx_auto.specs.Drafting.{IsDrafted}
use Rattle.lx_auto.proofs.DraftLists.{drafted}
use Rattle.lx_auto.proofs.drafting.draft_of.Goals as goal

pub of-requires : goal.of-requires
of-requires c =
    let held = c.args.groups.now.representatives.ok.0 in
    let wide : c.len-width.result ≡ length c.args.groups.now.representatives.items = omega (arith, c.len-width.ensures) in
    c.requires.machine _ (drafted _ c.args.groups.now.classes.items c.args.groups.now.representatives.items _ _ c.args.explored.now.matched.items c.args.explored.now.targets.items c.args.conditions _ _
    c.in_ok-starts.ensures (c.in_ok-classes.ensures.items ∙ c.deref.ensures.value) wide (rw c.deref-2.ensures.value at c.in_ok-accepted.ensures) (rw c.deref-3.ensures.value at c.in_ok-targets.ensures))

pub returns : goal.returns
returns c =
    let held = c.args.groups.now.representatives.ok.0 in
    let wide : c.len-width.result ≡ length c.args.groups.now.representatives.items = omega (arith, c.len-width.ensures) in
    subst (IsDrafted c.args.conditions c.args.groups.now.classes.items (length c.args.groups.now.representatives.items) c.args.explored.now.matched.items c.args.explored.now.targets.items)
    (sym c.of.ensures)
    (drafted _ c.args.groups.now.classes.items c.args.groups.now.representatives.items _ _ c.args.explored.now.matched.items c.args.explored.now.targets.items c.args.conditions _ _
    c.in_ok-starts.ensures (c.in_ok-classes.ensures.items ∙ c.deref.ensures.value) wide (rw c.deref-2.ensures.value at c.in_ok-accepted.ensures) (rw c.deref-3.ensures.value at c.in_ok-targets.ensures))
