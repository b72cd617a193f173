use Rattle.std.proofs.Common.{sym, ◌∙◌}
use Rattle.lx_flex_pattern.proofs.SetLemmas.{both_cases}
use Rattle.lx_flex_pattern.proofs.sets.insert_range.Goals as goal

pub returns-then-is_letter-2 : goal.returns-then-is_letter-2
returns-then-is_letter-2 c = λ test e.
    rw (c.other_case.ensures, c.other_case-then-is_letter-2.ensures) at (c.insert_range-then-is_letter-2.ensures _ (c.insert_range.ensures test e))
    ∙ both_cases c.args.fold c.args.low c.args.high test c.if-fold.true (sym c.is_letter.ensures ∙ c.if-is_letter.true) (sym c.is_letter-then-is_letter.ensures ∙ c.if-is_letter-2.true)
