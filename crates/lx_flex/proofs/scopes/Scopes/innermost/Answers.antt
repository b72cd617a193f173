use Rattle.std.proofs.Common.{ap, sym, ◌∙◌}
use Rattle.std.proofs.lemmas.Result.{IfOk-weaker}
use Rattle.std.specs.Option.{option_copied}
use Rattle.lx_flex.proofs.OpenScopes.{innermost_of_last}
use Rattle.lx_flex.proofs.scopes.Scopes.innermost.Goals as goal

pub returns-in-Some : goal.returns-in-Some
returns-in-Some c =
    let top = innermost_of_last (λ x. x.conditions.items) c.args.self.now.list.items c.deref.result.now (option_copied c.last.result) c.in-Some.scope.now
    c.deref.ensures.value c.last.ensures.value (ap option_copied c.in-Some.is) in
    IfOk-weaker c.from_slice.result _ _ (λ v is. is ∙ (c.as_slice.ensures.value ∙ sym top)) c.from_slice.ensures.items
