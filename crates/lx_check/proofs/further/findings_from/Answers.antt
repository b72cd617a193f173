use Rattle.std.proofs.Common.{◌≡◌, ◌∙◌, ◌++◌, ◌∷◌, [], ap}
use Rattle.std.proofs.lemmas.Result.{IfOk-weaker}
use Rattle.lx_check.specs.declared.text_fault.TextFault.TheVariants.{Specification}
use Rattle.lx_check.proofs.Furthering.{one_fault, some_faults}
use Rattle.lx_check.proofs.further.findings_from.Goals as goal

pub returns-then-most-lt2 : goal.returns-then-most-lt2
returns-then-most-lt2 c =
    let one : c.push.new.self.items ≡ Specification c.args.fault ∷ [] = c.in_ok-push.ensures.items ∙ ap (λ xs. xs ++ Specification c.args.fault ∷ []) c.new-findings.ensures.items in
    one_fault c.args.most c.args.text.now c.args.fault c.push.new.self.items c.requires c.if-most-lt2.true one

pub returns : goal.returns
returns c =
    let one : c.push.new.self.items ≡ Specification c.args.fault ∷ [] = c.in_ok-push.ensures.items ∙ ap (λ xs. xs ++ Specification c.args.fault ∷ []) c.new-findings.ensures.items in
    IfOk-weaker c.with_further.result _ _ (λ x has. some_faults c.args.most c.args.text.now c.args.fault _ _ _ _ x.items c.requires c.saturating_sub.ensures c.saturating_sub-left.ensures c.in_ok-rest.ensures one has) c.with_further.ensures
