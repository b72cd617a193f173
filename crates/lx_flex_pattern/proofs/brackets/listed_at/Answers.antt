use Rattle.std.proofs.Common.{map}
use Rattle.lx_flex_pattern.specs.Members.{member_of}
use Rattle.lx_flex_pattern.specs.Spelling.{members_at}
use Rattle.lx_flex_pattern.proofs.BracketLemmas.{listed, listed_none}
use Rattle.lx_flex_pattern.proofs.brackets.listed_at.Goals as goal

pub returns-in_default-clause-ok : goal.returns-in_default-clause-ok
returns-in_default-clause-ok c = listed_none c.args.fold (members_at c.args.fold c.args.text.now) (rw c.in_default.is at c.in_ok-members.ensures)

pub returns-clause-ok : goal.returns-clause-ok
returns-clause-ok c =
    rw (c.members_set.ensures, c.as_slice-2.ensures.value) (listed c.args.fold (members_at c.args.fold c.args.text.now) (map member_of c.in-Some.members.items) c.in-Some.behind.now (rw c.in-Some.is at c.in_ok-members.ensures))
