use Rattle.lx_post.specs.Posted.{IsTakePassOf}
use Rattle.lx_post.proofs.run_context.RunContext.drain.Given as goal

abbrev pub invariant-loop : goal.invariant-loop
invariant-loop g l = IsTakePassOf l.self.post l.take
