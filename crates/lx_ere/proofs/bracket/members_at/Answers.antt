use Rattle.std.proofs.Common.{◌∙◌, ◌||◌, false, sym}
use Rattle.lx_ere.specs.Bytes.{in_ranges}
use Rattle.lx_ere.specs.Tokens.{position_of, ranges_of}
use Rattle.lx_ere.proofs.MemberLoop.{members_at_is, members_at_none}
use Rattle.lx_ere.proofs.bracket.members_at.Goals as goal

pub returns-in_default : goal.returns-in_default
returns-in_default c = members_at_none (position_of c.args.position) c.args.text.now (sym c.in_default.ensures)

pub returns : goal.returns
returns c =
    c.read_members.ensures (λ b. in_ranges (ranges_of c.in-Some.first) b || false) (c.insert_member.ensures (λ _. false) c.empty-set.ensures)
    ∙ members_at_is (position_of c.args.position) c.args.text.now (ranges_of c.in-Some.first) c.in-Some.rest.now (sym c.in-Some.ensures)
