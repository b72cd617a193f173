use Rattle.std.proofs.Common.{sym, subst}
use Rattle.lx_piece.specs.Kept.{StandsFor}
use Rattle.lx_piece.proofs.Standing.{delivered_kept, delivered_stands}
use Rattle.lx_piece.proofs.collector.Collector.deliver.Goals as goal

pub returns-clause-delivered : goal.returns-clause-delivered
returns-clause-delivered g c = rw (← c.self.view_is) (delivered_kept c.self.inside.run _ _ c.deliver_lowest.result _ c.deliver_lowest.ensures.delivered)

pub returns-clause-stands : goal.returns-clause-stands
returns-clause-stands g c = λ came s.
    delivered_stands c.self.inside.run _ _ c.deliver_lowest.result came (subst (λ k. StandsFor k came) (sym c.self.view_is) s) c.deliver_lowest.ensures.delivered
