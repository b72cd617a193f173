use Rattle.std.proofs.Common.{◌≡◌, ◌∙◌, [], drop, sym, subst, arith}
use Rattle.lx_ere.specs.PatternGrammar.{BehindMark, mark_open, mark_byte}
use Rattle.lx_ere.proofs.EndLemmas.{no_bytes, mark_found}
use Rattle.lx_ere.proofs.extent.skip_to_closing_mark.Goals as goal

pub returns-then-closes-clause-behind : goal.returns-then-closes-clause-behind
returns-then-closes-clause-behind c =
    rw c.skip.ensures (c.loop-first.invariant.keeps (drop 1 c.in-Some.behind.now)
    (subst (λ t. BehindMark c.args.mark t (drop 1 c.in-Some.behind.now)) (sym c.in-Some.ensures.cases.0) (mark_found c.args.mark c.in-Some.first.now c.in-Some.behind.now (sym c.closes.ensures ∙ c.if-closes.true))))

pub loop-first-preserved : goal.loop-first-preserved
loop-first-preserved c = record {
  within = omega (arith, c.in-Some.ensures.cases.1, c.loop-first.invariant.within);
  keeps = λ behind h. c.loop-first.invariant.keeps behind
      (subst (λ t. BehindMark c.args.mark t behind) (sym c.in-Some.ensures.cases.0) (mark_byte c.args.mark c.in-Some.first.now c.in-Some.behind.now behind (sym c.closes.ensures ∙ c.if-closes.false) h));
}

pub returns-clause-behind : goal.returns-clause-behind
returns-clause-behind c =
    let none : c.loop-first.rest.now ≡ [] = no_bytes c.loop-first.rest.now c.in_default.ensures.cases in
    c.loop-first.invariant.keeps c.loop-first.rest.now (subst (λ t. BehindMark c.args.mark t t) (sym none) (mark_open c.args.mark))
