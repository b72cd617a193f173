use Rattle.std.proofs.Common.{◌≤◌, All, length, refl, sym, ◌∙◌, ap, subst, arith}
use Rattle.std.specs.Option.{option_map}
use Rattle.std.proofs.lemmas.List.{length-map}
use Rattle.std.proofs.lemmas.Option.{slice_get_read, slice_get-map}
use Rattle.lx_auto.specs.Grouping.{RespectsGroups}
use Rattle.lx_auto.specs.LeafViews.{leaf_view, leaves_view}
use Rattle.lx_auto.proofs.GroupsRespected.{respected_more, all_respected}
use Rattle.lx_auto.proofs.sets.groups.groups_of.Goals as goal

pub loop-i-preserved-then-is_among : goal.loop-i-preserved-then-is_among
loop-i-preserved-then-is_among c =
    let leaves = c.args.leaves.now in
    let i = c.loop-i.i in
    let leaf = c.index-leaves-i.result in
    let classes = c.loop-i.groups.classes.items in
    let representatives = c.loop-i.groups.representatives.items in
    let at = slice_get_read leaves (length leaves) i leaf refl c.loop-i-test.true c.index-leaves-i.is in
    let kept = subst (λ xs. All (λ k. RespectsGroups (leaf_view k) classes representatives) xs) (sym c.deref.ensures.value) c.loop-i.invariant.kept in
    record {
      below = respected_more (leaves_view leaves) i (leaf_view leaf) classes representatives classes representatives
          (slice_get-map leaf_view leaves i ∙ ap (λ o. option_map leaf_view o) at) c.loop-i.invariant.below (c.is_among.ensures classes representatives kept c.if-is_among.true) (λ other is. is);
      kept = c.loop-i.invariant.kept;
    }

pub loop-i-preserved : goal.loop-i-preserved
loop-i-preserved c =
    let leaves = c.args.leaves.now in
    let i = c.loop-i.i in
    let leaf = c.index-leaves-i.result in
    let old = c.loop-i.groups in
    let new = c.in_ok-groups-2.groups in
    let at = slice_get_read leaves (length leaves) i leaf refl c.loop-i-test.true c.index-leaves-i.is in
    record {
      below = respected_more (leaves_view leaves) i (leaf_view leaf) old.classes.items old.representatives.items new.classes.items new.representatives.items
          (slice_get-map leaf_view leaves i ∙ ap (λ o. option_map leaf_view o) at) c.loop-i.invariant.below c.in_ok-groups-2.ensures.own
          (λ other is. c.in_ok-groups-2.ensures.others other is);
      kept = c.in_ok-keep.ensures new.classes.items new.representatives.items
          (λ k d few. c.in_ok-groups-2.ensures.others (leaf_view _) (c.loop-i.invariant.kept k d few)) c.in_ok-groups-2.ensures.own;
    }

pub returns : goal.returns
returns c =
    let leaves = c.args.leaves.now in
    let groups = c.loop-i.groups in
    let long = length-map leaves leaf_view in
    let all : length (leaves_view leaves) ≤ c.loop-i.i = omega arith in
    record {
      bytes = groups.bytes;
      below = groups.below;
      few = groups.few;
      same = all_respected (leaves_view leaves) c.loop-i.i groups.classes.items groups.representatives.items all c.loop-i.invariant.below;
    }
