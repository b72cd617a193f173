use Rattle.std.proofs.Common.{◌∙◌, sym}
use Rattle.lx_ere.specs.Tokens.{ranges_of}
use Rattle.lx_ere.proofs.MemberLoop.{members_start, members_step, members_end, members_none, member_shorter}
use Rattle.lx_ere.proofs.bracket.read_members.Goals as goal

pub loop-rest-init : goal.loop-rest-init
loop-rest-init c = λ test e. members_start test c.args.text.now c.args.set e

pub returns-in_default : goal.returns-in_default
returns-in_default c = λ test e.
    members_none test c.args.text.now c.loop-rest.rest.now c.loop-rest.set (sym c.begins_with.ensures ∙ c.loop-rest-test.true) (sym c.in_default.ensures) (c.loop-rest.invariant test e)

pub loop-rest-smaller : goal.loop-rest-smaller
loop-rest-smaller c = member_shorter c.loop-rest.rest.now (ranges_of c.in-Some.member) c.in-Some.behind.now (sym c.in-Some.ensures)

pub loop-rest-preserved : goal.loop-rest-preserved
loop-rest-preserved c = λ test e.
    members_step test c.args.text.now c.loop-rest.rest.now c.loop-rest.set c.insert_member.new.set (ranges_of c.in-Some.member) c.in-Some.behind.now (sym c.begins_with.ensures ∙ c.loop-rest-test.true) (sym c.in-Some.ensures) c.insert_member.ensures (c.loop-rest.invariant test e)

pub returns : goal.returns
returns c = λ test e. rw c.skip.ensures (members_end test c.args.text.now c.loop-rest.rest.now c.loop-rest.set (sym c.begins_with.ensures ∙ c.loop-rest-test.false) (c.loop-rest.invariant test e))
