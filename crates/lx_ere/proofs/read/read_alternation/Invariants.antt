use Rattle.std.proofs.Common.{length}
use Rattle.lx_ere.specs.Groups.{groups_of}
use Rattle.lx_ere.proofs.ReadLemmas.{Reached}
use Rattle.lx_ere.proofs.read.read_alternation.Given as goal

abbrev pub invariant-loop-groups : goal.invariant-loop-groups
invariant-loop-groups l = Reached l.text l.rest (groups_of l.groups)

abbrev pub decreases-loop-groups : goal.decreases-loop-groups
decreases-loop-groups l = length l.rest
