use Rattle.std.proofs.Common.{Bool, sym, subst}
use Rattle.lx_ere.specs.Regex.{regex_of}
use Rattle.lx_flex.proofs.TextForms.{says_empty}
use Rattle.lx_flex.specs.Lengths.{SaysEmpty}
use Rattle.lx_lex.proofs.outline.cut_between.Goals as goal

pub returns-in-None-fixed_length-clause-meaning : goal.returns-in-None-fixed_length-clause-meaning
returns-in-None-fixed_length-clause-meaning c =
    let token = regex_of c.args.token.now in
    let context = regex_of c.args.context.now in
    (subst (λ (b : Bool). SaysEmpty token b) (sym c.matches_empty.ensures) (says_empty token), subst (λ (b : Bool). SaysEmpty context b) (sym c.matches_empty-in-None-fixed_length.ensures) (says_empty context))
