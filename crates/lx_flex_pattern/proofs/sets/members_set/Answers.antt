use Rattle.std.proofs.Common.{◌∙◌}
use Rattle.lx_flex_pattern.proofs.SetLemmas.{members_more}
use Rattle.lx_flex_pattern.proofs.sets.members_set.Goals as goal

pub loop-member-preserved : goal.loop-member-preserved
loop-member-preserved c = c.insert_member-set.ensures _ c.loop-member.invariant ∙ members_more c.args.fold c.args.members.now c.loop-member.member-index _ c.loop-member-test.true
