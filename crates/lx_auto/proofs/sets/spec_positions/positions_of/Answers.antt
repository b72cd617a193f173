use Rattle.std.proofs.Common.{sym, subst}
use Rattle.lx_rules.specs.views.Specs.{spec_view}
use Rattle.lx_auto.specs.LeafViews.{leaves_view}
use Rattle.lx_auto.specs.Leaves.{AreGroupsOf}
use Rattle.lx_auto.specs.PositionSets.{numbered}
use Rattle.lx_auto.specs.RuleParts.{ArePartsOf}
use Rattle.lx_auto.specs.Simplified.{simplified_pattern}
use Rattle.lx_auto.proofs.sets.spec_positions.positions_of.Goals as goal

pub returns-clause-stands : goal.returns-clause-stands
returns-clause-stands c =
    let spec = spec_view c.args.spec.now in
    let unfolded = c.in_ok-unfolded.unfolded in
    let groups = c.in_ok-groups.groups in
    let parts = c.in_ok-unfolded.ensures.parts in
    let same = subst (λ p. ArePartsOf p (numbered (simplified_pattern spec.definitions) 0 spec.rules) unfolded.total) (sym c.as_slice.ensures.value) parts in
    record {
      parts = parts;
      leaves = c.in_ok-leaves.ensures (simplified_pattern spec.definitions) spec.rules unfolded.total same;
      groups = subst (λ l. AreGroupsOf (leaves_view l) groups.classes.items groups.representatives.items) c.as_slice-2.ensures.value c.in_ok-groups.ensures;
    }
