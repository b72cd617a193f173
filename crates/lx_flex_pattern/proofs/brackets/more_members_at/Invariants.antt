use Rattle.std.proofs.Common.{◌≡◌, false, List, ◌++◌, suc, ◌-◌, length, map}
use Rattle.lx_ere.specs.ScanLaws.{Fueled}
use Rattle.lx_flex_pattern.specs.Members.{member_of}
use Rattle.lx_flex_pattern.specs.Sets.{Member}
use Rattle.lx_flex_pattern.specs.Spelling.{member_at}
use Rattle.lx_flex_pattern.proofs.brackets.more_members_at.Given as goal

abbrev pub invariant-loop-byte : goal.invariant-loop-byte
invariant-loop-byte l =
    (done : List Member) × (map member_of l.members.items ≡ map member_of l.fn.members.items ++ done)
    × Fueled (member_at false l.fold) 93 l.text done (suc (length l.text - l._byte-index)) l.rest
