use Rattle.std.proofs.Common.{◌≡◌, ◌∙◌, [], ◌∷◌, length, sym, ap, subst, arith, length-drop}
use Rattle.lx_ere.specs.PatternGrammar.{BehindMark, BehindBrackets, bracket_closes, bracket_open, bracket_byte}
use Rattle.lx_ere.proofs.EndLemmas.{no_bytes, brackets_escape, inner_found}
use Rattle.lx_ere.proofs.extent.skip_brackets.Goals as goal

pub returns-then-first-eq93-clause-behind : goal.returns-then-first-eq93-clause-behind
returns-then-first-eq93-clause-behind c =
    c.loop-first.invariant.keeps c.in-Some.behind.now (subst (λ t. BehindBrackets t c.in-Some.behind.now) (sym (c.in-Some.ensures.cases.0 ∙ ap (λ x. x ∷ c.in-Some.behind.now) c.if-first-eq93.true)) (bracket_closes c.in-Some.behind.now))

pub loop-first-preserved-then-first-eq92 : goal.loop-first-preserved-then-first-eq92
loop-first-preserved-then-first-eq92 c = record {
  within = omega (arith, c.in-Some.ensures.cases.1, c.loop-first.invariant.within, ap length c.skip-rest.ensures, length-drop 1 c.in-Some.behind.now);
  keeps = λ behind h. c.loop-first.invariant.keeps behind (subst (λ t. BehindBrackets t behind) (sym (c.in-Some.ensures.cases.0 ∙ ap (λ x. x ∷ c.in-Some.behind.now) c.if-first-eq92.true)) (brackets_escape c.in-Some.behind.now behind (subst (λ t. BehindBrackets t behind) c.skip-rest.ensures h)));
}

pub loop-first-preserved-in-Some-inner_mark : goal.loop-first-preserved-in-Some-inner_mark
loop-first-preserved-in-Some-inner_mark c = record {
  within = omega (arith, c.in-Some.ensures.cases.1, c.loop-first.invariant.within, c.skip_to_closing_mark-rest.ensures.shorter, ap length c.skip.ensures, length-drop 2 c.in-Some.behind.now);
  keeps = λ behind h. c.loop-first.invariant.keeps behind (subst (λ t. BehindBrackets t behind) (sym c.in-Some.ensures.cases.0)
      (inner_found c.in-Some-inner_mark.mark c.in-Some.first.now c.in-Some.behind.now c.skip_to_closing_mark-rest.result.now behind c.in-Some-inner_mark.ensures
      (subst (λ t. BehindMark c.in-Some-inner_mark.mark t c.skip_to_closing_mark-rest.result.now) c.skip.ensures c.skip_to_closing_mark-rest.ensures.behind) h));
}

pub loop-first-preserved : goal.loop-first-preserved
loop-first-preserved c = record {
  within = omega (arith, c.in-Some.ensures.cases.1, c.loop-first.invariant.within);
  keeps = λ behind h. c.loop-first.invariant.keeps behind (subst (λ t. BehindBrackets t behind) (sym c.in-Some.ensures.cases.0) (bracket_byte c.in-Some.first.now c.in-Some.behind.now behind c.if-first-eq93.false c.if-first-eq92.false c.in-None.ensures h));
}

pub returns-clause-behind : goal.returns-clause-behind
returns-clause-behind c =
    let none : c.loop-first.rest.now ≡ [] = no_bytes c.loop-first.rest.now c.in_default.ensures.cases in
    c.loop-first.invariant.keeps c.loop-first.rest.now (subst (λ t. BehindBrackets t t) (sym none) bracket_open)
