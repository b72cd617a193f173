use Rattle.lx_post.specs.Claimed.{IsSeatOf}
use Rattle.lx_post.specs.Working.{HasDrawn, SendsPieces}
use Rattle.lx_post.proofs.run_context.RunContext.send_drawn.Given as goal

abbrev pub invariant-loop : goal.invariant-loop
invariant-loop g l = record {
  seat : IsSeatOf l.self.claims l.seat;
  pass : SendsPieces l.initial.pass l.pass;
  drawn : HasDrawn g.M.Maker.made l.self.plan.now l.files l.seat l.pass;
}
