use Rattle.std.proofs.Common.{[], ◌∷◌, ◌++◌, sym, ap, ◌∙◌, map}
use Rattle.std.proofs.lemmas.Result.{IfOk-weaker}
use Rattle.lx_flex_pattern.specs.Members.{member_of}
use Rattle.lx_flex_pattern.proofs.BracketLemmas.{first_and_more}
use Rattle.lx_flex_pattern.proofs.brackets.members_at.Goals as goal

pub returns : goal.returns
returns c = IfOk-weaker c.more_members_at.result _ _ (λ o e.
    first_and_more c.args.fold c.args.text.now c.in-Some.rest.now (member_of c.in-Some.member) (map member_of c.push.new.self.items) _ (sym c.in-Some.ensures)
    (ap (map member_of) (c.in_ok-push.ensures.items ∙ ap (λ ms. ms ++ c.in-Some.member ∷ []) c.new-members.ensures.items)) e) c.more_members_at.ensures
