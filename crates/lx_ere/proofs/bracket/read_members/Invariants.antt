use Rattle.std.proofs.Common.{◌≡◌, ℕ, Bool, length}
use Rattle.lx_ere.specs.Bytes.{bytes_where}
use Rattle.lx_ere.proofs.MemberLoop.{MembersRead}
use Rattle.lx_ere.proofs.bracket.read_members.Given as goal

abbrev pub invariant-loop-rest : goal.invariant-loop-rest
invariant-loop-rest l = (test : ℕ → Bool) → l.initial.set ≡ bytes_where test → MembersRead test l.text l.rest l.set

abbrev pub decreases-loop-rest : goal.decreases-loop-rest
decreases-loop-rest l = length l.rest
