use Rattle.std.proofs.Common.{◌≡◌, take, map}
use Rattle.lx_ere.specs.Bytes.{bytes_where}
use Rattle.lx_flex_pattern.specs.Members.{member_of}
use Rattle.lx_flex_pattern.specs.Sets.{some_has}
use Rattle.lx_flex_pattern.proofs.sets.members_set.Given as goal

abbrev pub invariant-loop-member : goal.invariant-loop-member
invariant-loop-member l = l.set ≡ bytes_where (some_has l.fn.fold (map member_of (take l.member-index l.members)))
