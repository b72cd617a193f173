use Rattle.std.proofs.Common.{sym, subst}
use Rattle.std.proofs.lemmas.List.Elements.{All-push}
use Rattle.lx_piece.specs.Arrivals.{AreHonest, IsHonest}
use Rattle.lx_fixtures.proofs.plans.last_file_first.Goals as goal

pub loop-cutter-preserved : goal.loop-cutter-preserved
loop-cutter-preserved c =
    let e = rw c.in-Some.is at c.in_ok-piece.ensures.piece in
    record {
      honest = subst (AreHonest c.args.plan.now) (sym c.in_ok-push.ensures.items)
          (All-push (IsHonest c.args.plan.now) c.loop-cutter.pieces.items c.in-Some.piece c.loop-cutter.invariant.honest (λ _ _. e.0));
      cutter = c.next_piece.ensures.cutter;
    }
