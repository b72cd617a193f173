use Rattle.std.proofs.Common.{arith}
use Rattle.lx_c.proofs.Texts.{text_end, then_3}
use Rattle.lx_lex.proofs.arrays.push_row.Goals as goal

pub returns : goal.returns
returns c =
    then_3 c.push.result _ _ _ _ _ _ _ (text_end _ _ _ _ _ c.loop-class.invariant (omega arith))
    (rw (c.accepted_word.ensures) at c.in_ok-push_number_then-2.ensures) c.push.ensures
