use Rattle.std.proofs.Common.{◌≡◌, ◌+◌, ◌*◌, ◌<◌, slice_index, ◌∷◌, [], length, sym, ◌∙◌, ap, subst, arith}
use Rattle.lx_auto.specs.LeafViews.{leaves_view}
use Rattle.lx_auto.specs.PositionSets.{numbered}
use Rattle.lx_auto.specs.Exploring.{HaveSteps}
use Rattle.std.proofs.lemmas.Result.{err_from_is_err_and}
use Rattle.lx_auto.proofs.FlagLemmas.{length_joined}
use Rattle.lx_auto.proofs.Reached.{reached_from, reached_added, source_kept, steps_push, more_sets}
use Rattle.lx_auto.proofs.explore.add_row.Goals as goal

pub loop-class-preserved : goal.loop-class-preserved
loop-class-preserved c =
    let leaves = leaves_view c.args.leaves.now in
    let reps = c.args.representatives.now in
    let i = c.loop-class.class in
    let from = c.args.from.now in
    let old = c.loop-class.table.sets.items in
    let new = c.add_target.new.table.sets.items in
    let e = c.in_ok-add_target.ensures in
    let inv = c.loop-class.invariant in
    let more = e.extended_by.more in
    let before = inv.more in
    let byte : slice_index reps i < 256 = (let f = c.type_inv.representatives i in omega arith) in
    record {
      numbering = e.numbering;
      room = e.room;
      more = omega arith;
      long = ap length e.target.added ∙ length_joined c.loop-class.targets.items (e.target.target ∷ []) ∙ (let b = inv.long in omega arith);
      kept = λ k h. e.extended_by.kept k (omega arith) ∙ inv.kept k h;
      source = λ spec tree_of state row. source_kept spec (numbered tree_of 0 spec.rules) old new _ from state e.extended_by (inv.source spec tree_of state row);
      reached = λ spec tree_of state row.
          reached_added spec (numbered tree_of 0 spec.rules) old new _ (inv.reached spec tree_of state row) e.extended_by
          (λ ne. reached_from spec tree_of leaves row.leaves_of old state _ from byte (inv.reached spec tree_of state row) (inv.source spec tree_of state row) ne)
          e.fresh;
      steps = λ spec tree_of state row.
          let rules = numbered tree_of 0 spec.rules in
          let pushed = steps_push spec rules leaves reps old new c.loop-class.targets.items state i e.target.target from
          (inv.steps spec tree_of state row) c.loop-class-test.true (inv.source spec tree_of state row) e.extended_by e.target.is in
          let more : state * length reps + i + 1 ≡ state * length reps + (i + 1) = omega arith in
          subst (λ n. HaveSteps spec rules leaves reps new c.add_target.new.targets.items n) more
          (subst (λ l. HaveSteps spec rules leaves reps new l (state * length reps + i + 1)) (sym e.target.added) pushed);
    }

pub returns-in_err-add_target-clause-many : goal.returns-in_err-add_target-clause-many
returns-in_err-add_target-clause-many c = λ spec tree_of state row.
    let rules = numbered tree_of 0 spec.rules in
    let leaves = leaves_view c.args.leaves.now in
    let old = c.loop-class.table.sets.items in
    let inv = c.loop-class.invariant in
    let byte : slice_index c.args.representatives.now c.loop-class.class < 256 = (let f = c.type_inv.representatives c.loop-class.class in omega arith) in
    let p = err_from_is_err_and c.from_residual.result c.from_residual.ensures.1 in
    rw (p.1, p.2) (λ is.
    let many = c.in_err-add_target.ensures.many is in
    more_sets spec rules old _ c.args.limit (inv.reached spec tree_of state row)
    (reached_from spec tree_of leaves row.leaves_of old state _ c.args.from.now byte (inv.reached spec tree_of state row) (inv.source spec tree_of state row) many.1)
    many.0 many.2)
