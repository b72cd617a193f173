use Rattle.std.proofs.Common.{ap, subst, sym, ◌∙◌, ◌+◌, false, slice_index_or}
use Rattle.lx_reach.specs.Chosen.{AreNeverChosen}
use Rattle.lx_reach.proofs.Unchosen.{chosen, unchosen}
use Rattle.lx_reach.proofs.chosen.never_chosen.Goals as goal
use Rattle.lx_reach.proofs.chosen.never_chosen.Goals.{then-is_unset+in_ok-push, else-is_unset}

pub loop-number-preserved : goal.loop-number-preserved
loop-number-preserved c =
    let t = c.args.tables.now in
    let n = c.loop-number.number in
    elim c.if-is_unset.branch [
      | then-is_unset+in_ok-push w ↦
          subst (λ list. AreNeverChosen t (n + 1) list) (sym (ap (λ v. v.items) w.rules-is ∙ w.in_ok-push.ensures.items))
          (unchosen t n c.loop-number.rules.items c.loop-number.invariant (c.in_ok-chosen.ensures.fails n (ap (λ f. slice_index_or f n false) (sym c.deref.ensures.value) ∙ c.is_unset.ensures.unset w.if-is_unset.true)))
      | else-is_unset w ↦ subst (λ list. AreNeverChosen t (n + 1) list) (sym (ap (λ v. v.items) w.rules-is)) (chosen t n c.loop-number.rules.items c.loop-number.invariant (c.in_ok-chosen.ensures.holds n (ap (λ f. slice_index_or f n false) (sym c.deref.ensures.value) ∙ c.is_unset.ensures.set w.if-is_unset.false)))
    ]
