use Rattle.std.proofs.Common.{◌≡◌, ◌+◌, ◌*◌, ◌<◌, ◌∷◌, [], length, sym, ◌∙◌, ap, subst, arith}
use Rattle.std.proofs.lemmas.List.{length-map}
use Rattle.std.proofs.lemmas.Result.{err_from_is_err_and}
use Rattle.lx_rules.specs.views.Conditions.{condition_view}
use Rattle.lx_rules.specs.views.Specs.{spec_view}
use Rattle.lx_auto.specs.LeafViews.{leaves_view}
use Rattle.lx_auto.specs.Exploring.{start_count}
use Rattle.lx_auto.specs.PositionTables.{AreMatchedBelow}
use Rattle.lx_auto.proofs.FlagLemmas.{length_joined}
use Rattle.lx_auto.proofs.MatchedRules.{matched_push, matched_none}
use Rattle.lx_auto.proofs.Reached.{explored_at}
use Rattle.lx_auto.proofs.explore.explore.Goals as goal

pub starts-preserved : goal.starts-preserved
starts-preserved c =
    let spec = spec_view c.args.spec.now in
    let own = c.args.positions.now in
    let i = c.starts.condition in
    record {
      numbering = c.in_ok-add_start-2.ensures.numbering;
      room = c.in_ok-add_start-2.ensures.room;
      explored = λ tree_of positions.
          let first = c.in_ok-add_start.ensures.explored tree_of positions (c.starts.invariant.explored tree_of positions) in
          let second = c.in_ok-add_start-2.ensures.explored tree_of positions first in
          explored_at spec tree_of (leaves_view own.leaves.items) own.groups.representatives.items c.add_start-in-starts.new.table.sets.items
          c.add_start-in-starts.new.targets.items (2 * i + 1 + 1) (2 * (i + 1)) (omega arith) second;
    }

pub sets-init : goal.sets-init
sets-init c =
    let spec = spec_view c.args.spec.now in
    let own = c.args.positions.now in
    let none = ap length c.new-matched.ensures.items in
    let conditions = c.args.spec.now.conditions in
    let seen = length-map conditions.items condition_view in
    let held = conditions.ok.0 in
    let all : 2 * c.starts.condition ≡ start_count spec + length c.new-matched.result.items =
    omega (arith, c.len-condition-end.ensures, c.starts-test.false, c.starts.auto.condition-end) in
    record {
      numbering = c.starts.invariant.numbering;
      room = c.starts.invariant.room;
      below = omega arith;
      marks = c.in_ok-marks.ensures.long;
      reads = c.in_ok-reads.ensures.long;
      clear_marks = c.in_ok-marks.ensures.clear;
      clear_reads = λ tree_of positions. c.in_ok-reads.ensures.clear;
      explored = λ tree_of positions.
          explored_at spec tree_of (leaves_view own.leaves.items) own.groups.representatives.items c.starts.table.sets.items c.starts.targets.items
          (2 * c.starts.condition) (start_count spec + length c.new-matched.result.items) all (c.starts.invariant.explored tree_of positions);
      matched = λ tree_of positions.
          subst (λ n. AreMatchedBelow spec tree_of c.starts.table.sets.items c.new-matched.result.items n) (sym none)
          (matched_none spec tree_of c.starts.table.sets.items c.new-matched.result.items c.new-matched.ensures.items);
    }

pub returns-in_err-found-clause-many : goal.returns-in_err-found-clause-many
returns-in_err-found-clause-many c = λ tree_of positions.
    let spec = spec_view c.args.spec.now in
    let own = c.args.positions.now in
    let held = c.sets.matched.ok.0 in
    let at : start_count spec + length c.sets.matched.items ≡ start_count spec + c.len-number.result = omega (arith, c.len-number.ensures) in
    let p = err_from_is_err_and c.from_residual-in_err-found.result c.from_residual-in_err-found.ensures.1 in
    rw (p.1, p.2) (c.in_err-found.ensures.many spec tree_of positions (c.sets.invariant.clear_reads tree_of positions)
    (explored_at spec tree_of (leaves_view own.leaves.items) own.groups.representatives.items c.sets.table.sets.items c.sets.targets.items
    (start_count spec + length c.sets.matched.items) (start_count spec + c.len-number.result) at (c.sets.invariant.explored tree_of positions)))

pub sets-preserved : goal.sets-preserved
sets-preserved c =
    let spec = spec_view c.args.spec.now in
    let own = c.args.positions.now in
    let leaves = leaves_view own.leaves.items in
    let reps = own.groups.representatives.items in
    let old = c.sets.table.sets in
    let new = c.add_set_row.new.table.sets.items in
    let n = c.len-number.result in
    let found = c.in_ok-found.found in
    let held = c.sets.matched.ok.0 in
    let sets_held = old.ok.0 in
    let at : n ≡ length c.sets.matched.items = omega (arith, c.len-number.ensures) in
    let inside : n < length old.items = omega (arith, c.len-number.ensures, c.len.ensures, c.len-in-sets.ensures, c.sets-test.true) in
    let pushed = c.in_ok-push.ensures.items in
    let long : length c.push.new.self.items ≡ n + 1 = ap length pushed ∙ length_joined c.sets.matched.items (found ∷ []) ∙ (omega arith) in
    let more = c.in_ok-found.ensures.more in
    record {
      numbering = c.in_ok-found.ensures.numbering;
      room = c.in_ok-found.ensures.room;
      below = omega arith;
      marks = c.in_ok-found.ensures.long_marks ∙ c.sets.invariant.marks;
      reads = c.in_ok-found.ensures.long_reads ∙ c.sets.invariant.reads;
      clear_marks = c.in_ok-found.ensures.clear_marks;
      clear_reads = λ tree_of positions. c.in_ok-found.ensures.clear_reads spec tree_of positions (c.sets.invariant.clear_reads tree_of positions);
      explored = λ tree_of positions.
          let before : start_count spec + length c.sets.matched.items ≡ start_count spec + n = omega arith in
          let after : start_count spec + n + 1 ≡ start_count spec + length c.push.new.self.items = omega arith in
          explored_at spec tree_of leaves reps new c.add_set_row.new.targets.items (start_count spec + n + 1) (start_count spec + length c.push.new.self.items) after
          (c.in_ok-found.ensures.explored spec tree_of positions (c.sets.invariant.clear_reads tree_of positions)
          (explored_at spec tree_of leaves reps old.items c.sets.targets.items (start_count spec + length c.sets.matched.items) (start_count spec + n) before
          (c.sets.invariant.explored tree_of positions)));
      matched = λ tree_of positions.
          let so_far = subst (λ k. AreMatchedBelow spec tree_of old.items c.sets.matched.items k) (sym at) (c.sets.invariant.matched tree_of positions) in
          let one_more = matched_push spec tree_of old.items new c.sets.matched.items n found inside c.in_ok-found.ensures.kept so_far
          (c.in_ok-found.ensures.matched spec tree_of positions) in
          subst (λ k. AreMatchedBelow spec tree_of new c.push.new.self.items k) (sym long)
          (subst (λ l. AreMatchedBelow spec tree_of new l (n + 1)) (sym pushed) one_more);
    }

pub returns-clause-explored : goal.returns-clause-explored
returns-clause-explored c = λ tree_of positions.
    let spec = spec_view c.args.spec.now in
    let own = c.args.positions.now in
    let held = c.sets.matched.ok.0 in
    let sets_held = c.sets.table.sets.ok.0 in
    let below = c.sets.invariant.below in
    let all : length c.sets.matched.items ≡ length c.sets.table.sets.items = omega (arith, c.len.ensures, c.len-in-sets.ensures, c.sets-test.false) in
    let sum : start_count spec + length c.sets.matched.items ≡ start_count spec + length c.sets.table.sets.items = omega arith in
    record {
      steps = explored_at spec tree_of (leaves_view own.leaves.items) own.groups.representatives.items c.sets.table.sets.items c.sets.targets.items
          (start_count spec + length c.sets.matched.items) (start_count spec + length c.sets.table.sets.items) sum (c.sets.invariant.explored tree_of positions);
      matched = subst (λ n. AreMatchedBelow spec tree_of c.sets.table.sets.items c.sets.matched.items n) all (c.sets.invariant.matched tree_of positions);
    }
