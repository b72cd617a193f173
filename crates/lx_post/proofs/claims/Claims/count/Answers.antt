use Rattle.std.proofs.Common.{◌≡◌, ℕ, ◌+◌, List, [], ap, arith}
use Rattle.std.specs.List.{sum_by}
use Rattle.lx_post.specs.Claimed.{times, once_below}
use Rattle.lx_post.specs.Claimed.{Drawn}
use Rattle.lx_post.proofs.claims.Claims.count.Goals as goal

ends : (x files : ℕ) (one : List ℕ) (left all : List Drawn) → left ≡ [] → times x one + sum_by (λ (s : Drawn). times x s.drawn) left ≡ sum_by (λ (s : Drawn). times x s.drawn) all → times x one ≡ once_below x files
    → sum_by (λ (s : Drawn). times x s.drawn) all ≡ once_below x files
ends x files one left all none sum look = let empty : sum_by (λ (s : Drawn). times x s.drawn) left ≡ 0 = ap (sum_by (λ (s : Drawn). times x s.drawn)) none in omega arith

pub returns : goal.returns
returns c x = ends x c.args.self.now.files c.loop-other.one.me.0.drawn c.loop-other.seats.items c.args.seats.items (grind arith) (c.loop-other.invariant.sum x) (c.learn_drawn_once.ensures x)
