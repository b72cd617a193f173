use Rattle.std.proofs.Common.{sym, ◌∙◌, drop}
use Rattle.lx_flex_pattern.specs.Spelling.{members_at}
use Rattle.lx_flex_pattern.proofs.BracketLemmas.{others, others_none}
use Rattle.lx_flex_pattern.proofs.brackets.brackets_at.Goals as goal

pub returns-in_default-clause-ok : goal.returns-in_default-clause-ok
returns-in_default-clause-ok c =
    let excluding = sym c.is_excluding.ensures ∙ c.if-is_excluding.true in
    rw excluding (others_none c.args.fold (members_at c.args.fold (drop 1 c.args.text.now)) (rw c.skip.ensures at (rw c.in_default.is at c.in_ok-listed.ensures.ok)))

pub returns-then-is_excluding-clause-ok : goal.returns-then-is_excluding-clause-ok
returns-then-is_excluding-clause-ok c =
    let excluding = sym c.is_excluding.ensures ∙ c.if-is_excluding.true in
    rw excluding (others c.args.fold (members_at c.args.fold (drop 1 c.args.text.now)) c.in-Some.listed c.complement.result c.in-Some.behind.now (rw c.skip.ensures at (rw c.in-Some.is at c.in_ok-listed.ensures.ok)) c.complement.ensures.tested)
