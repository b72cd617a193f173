use Rattle.std.proofs.Common.{◌≡◌, true, sym, ◌∙◌}
use Rattle.std.proofs.lemmas.Str.Pattern.{starts_text}
use Rattle.lx_diagnose.proofs.explaining.piece_of.Goals as goal

pub returns-then-starts_with-2 : goal.returns-then-starts_with-2
returns-then-starts_with-2 c =
    sym (starts_text c.starts_with.result c.args.word.now c.in-Some.piece.now c.starts_with.ensures.cases) ∙ c.if-starts_with.true
