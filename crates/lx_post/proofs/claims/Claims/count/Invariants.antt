use Rattle.std.proofs.Common.{◌≡◌, ℕ, ◌<◌, ◌≤◌, ◌+◌, All, true, vec_len}
use Rattle.std.specs.List.{sum_by}
use Rattle.lx_post.specs.Claimed.{times}
use Rattle.lx_post.specs.Claimed.{Drawn, IsSeatOf}
use Rattle.lx_post.proofs.claims.Claims.count.Given as goal

abbrev pub invariant-loop-other : goal.invariant-loop-other
invariant-loop-other l = record {
  these : All (λ (s : Drawn). IsSeatOf l.self s) l.seats.items;
  done : All (λ (s : Drawn). s.done ≡ true) l.seats.items;
  one : (l.one.table_id ≡ l.self.word) × (l.one.me.0.files ≡ l.self.files) × (0 < l.one.me.0.past);
  all : l.self.workers ≤ l.one.me.0.parts + vec_len l.seats;
  sum : (x : ℕ) → times x l.one.me.0.drawn + sum_by (λ (s : Drawn). times x s.drawn) l.seats.items ≡ sum_by (λ (s : Drawn). times x s.drawn) l.fn.seats.items;
}

abbrev pub decreases-loop-other : goal.decreases-loop-other
decreases-loop-other l = vec_len l.seats
