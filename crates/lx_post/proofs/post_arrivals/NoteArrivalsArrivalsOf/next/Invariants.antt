use Rattle.std.proofs.Common.{[]}
use Rattle.lx_post.specs.Posted.{CameBetween}
use Rattle.lx_post.proofs.post_arrivals.NoteArrivalsArrivalsOf.next.Given as goal

abbrev pub invariant-loop : goal.invariant-loop
invariant-loop g l = CameBetween l.initial.self [] l.self
