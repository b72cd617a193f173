use Rattle.std.proofs.Common.{◌≡◌, ◌+◌, ◌-◌, ◌<◌, ◌≤◌, replicate, vec_capacity}
use Rattle.lx_post.specs.Claimed.{fresh_seat}
use Rattle.lx_post.specs.Draws.{IsFresh}
use Rattle.lx_post.proofs.claims.Claims.new.Given as goal

abbrev pub invariant-loop-made : goal.invariant-loop-made
invariant-loop-made l = record {
  fresh : IsFresh l.claims (l.workers + 1 - l.made) l.seat;
  some : 0 < l.made;
  room : l.workers ≤ vec_capacity l.seats;
  seats : l.seats.items ≡ replicate (l.made - 1) (fresh_seat l.claims);
}
