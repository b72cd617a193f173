use Rattle.std.proofs.Common.{inl, inr, refl, arith}
use Rattle.lx_auto.proofs.Followed.{untouched_reads, untouched_ends}
use Rattle.lx_auto.proofs.sets.set_steps.step_rule.Goals as goal

pub returns-then-is_untouched-clause-matched : goal.returns-then-is_untouched-clause-matched
returns-then-is_untouched-clause-matched c = λ r part.
    let b = part.base in
    let k = part.count in
    let none = c.is_untouched.ensures c.if-is_untouched.true in (
      (λ x. absurd (cc)),
      (λ e. absurd (untouched_ends r c.args.marks.now (λ q low high. none q (omega arith) (omega arith)) e)),
    )

pub returns-then-is_untouched-clause-reads : goal.returns-then-is_untouched-clause-reads
returns-then-is_untouched-clause-reads c = λ r part room clear.
    let b = part.base in
    let k = part.count in
    let none = c.is_untouched.ensures c.if-is_untouched.true in
    inr (refl, (λ q h. untouched_reads r c.args.marks.now (λ p low high. none p (omega arith) (omega arith)) q h))

pub returns-clause-reads : goal.returns-clause-reads
returns-clause-reads c = λ r part room clear. inl (c.in_ok-matched.ensures.reads r part room clear)
