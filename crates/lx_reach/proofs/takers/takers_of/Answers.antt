use Rattle.std.proofs.Common.{All, ap, subst, sym, ◌∙◌}
use Rattle.std.proofs.lemmas.List.Elements.{All-push}
use Rattle.lx_reach.specs.Takers.{IsTaker}
use Rattle.lx_reach.proofs.takers.takers_of.Goals as goal
use Rattle.lx_reach.proofs.takers.takers_of.Goals.{then-not-contains+in_ok-push, else-not-contains}

pub loop-place-preserved : goal.loop-place-preserved
loop-place-preserved c =
    let P = IsTaker c.args.alone.now.machine c.args.all.now.machine in
    elim c.if-not-contains.branch [
      | then-not-contains+in_ok-push w ↦
          subst (λ rules. All P rules) (sym (ap (λ v. v.items) w.rules-is ∙ w.in_ok-push.ensures.items))
          (All-push P c.loop-place.rules.items c.in-Some.rule c.loop-place.invariant c.in-Some.ensures)
      | else-not-contains w ↦ subst (λ rules. All P rules) (sym (ap (λ v. v.items) w.rules-is)) c.loop-place.invariant
    ]
