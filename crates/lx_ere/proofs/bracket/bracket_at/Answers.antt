use Rattle.std.proofs.Common.{◌∙◌, ap, sym}
use Rattle.std.specs.Option.{option_map}
use Rattle.lx_ere.specs.Brackets.{behind_caret}
use Rattle.lx_ere.specs.Lexing.{members_at, members_set}
use Rattle.lx_ere.proofs.MemberLoop.{bracket_excluding, bracket_excluding_none}
use Rattle.lx_ere.proofs.bracket.bracket_at.Goals as goal

pub returns-in-Some : goal.returns-in-Some
returns-in-Some c =
    bracket_excluding c.args.text.now c.in-Some.set c.complement.result c.in-Some.behind.now (sym c.begins_with.ensures ∙ c.if-begins_with.true)
    (c.in-Some.ensures ∙ ap (λ t. option_map members_set (members_at behind_caret t)) c.skip.ensures) c.complement.ensures.tested

pub returns-in-None : goal.returns-in-None
returns-in-None c =
    bracket_excluding_none c.args.text.now (sym c.begins_with.ensures ∙ c.if-begins_with.true)
    (c.in-None.ensures ∙ ap (λ t. option_map members_set (members_at behind_caret t)) c.skip.ensures)
