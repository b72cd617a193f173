use Rattle.std.proofs.Common.{sym, subst, List, ℕ}
use Rattle.lx_flex.specs.RulesSections.{Follows, on_its_line, on_a_later_line}
use Rattle.lx_flex.specs.States.{left}
use Rattle.lx_flex.proofs.rules.skip_to_next.Goals as goal

pub returns-then-not-is_blank_line-clause-follows : goal.returns-then-not-is_blank_line-clause-follows
returns-then-not-is_blank_line-clause-follows c = on_its_line (let e = c.if-not-is_blank_line.true in cc)

pub returns-clause-follows : goal.returns-clause-follows
returns-clause-follows c =
    subst (λ (t : List ℕ). Follows (left c.args.cursor.now) t) (sym c.skip_blanks.ensures.left) (on_a_later_line (let e = c.if-not-is_blank_line.false in cc) c.in_ok-skip_code.ensures.code)
