use Rattle.std.proofs.Common.{◌≡◌, ◌∷◌, [], ◌++◌, ap, sym, subst, ◌∙◌}
use Rattle.lx_check.specs.Further.{AreFindings, too_large}
use Rattle.lx_check.proofs.further.too_large.Goals as goal

pub returns : goal.returns
returns c =
    let one : c.push.new.self.items ≡ c.args.finding ∷ [] = c.in_ok-push.ensures.items ∙ ap (λ xs. xs ++ c.args.finding ∷ []) c.new-findings.ensures.items in
    subst (λ xs. AreFindings c.args.most c.args.text.now xs) (sym one) (too_large c.args.finding c.requires)
