use Rattle.std.proofs.Common.{◌≡◌, ◌∙◌, [], ◌∷◌, length, sym, ap, subst, arith, length-drop}
use Rattle.lx_ere.specs.PatternGrammar.{BehindBrackets, skip_first, BehindPattern, at_end, at_blank, past_quotes, past_brackets, past_byte}
use Rattle.lx_ere.proofs.EndLemmas.{no_bytes, pattern_escape}
use Rattle.lx_ere.proofs.extent.skip_pattern.Goals as goal

pub returns-then-is_blank-clause-behind : goal.returns-then-is_blank-clause-behind
returns-then-is_blank-clause-behind c =
    c.loop-first.invariant.keeps c.loop-first.rest.now (subst (λ t. BehindPattern t t) (sym c.in-Some.ensures.cases.0) (at_blank c.in-Some.first.now c.in-Some.behind.now (sym c.is_blank.ensures ∙ c.if-is_blank.true)))

pub loop-first-preserved-in-92 : goal.loop-first-preserved-in-92
loop-first-preserved-in-92 c = record {
  within = omega (arith, c.in-Some.ensures.cases.1, c.loop-first.invariant.within, ap length c.skip-rest.ensures, length-drop 1 c.in-Some.behind.now);
  keeps = λ behind h. c.loop-first.invariant.keeps behind (subst (λ t. BehindPattern t behind) (sym (c.in-Some.ensures.cases.0 ∙ ap (λ x. x ∷ c.in-Some.behind.now) c.in-92.is))
      (pattern_escape c.in-Some.behind.now behind (subst (λ t. BehindPattern t behind) c.skip-rest.ensures h)));
}

pub loop-first-preserved-in-34 : goal.loop-first-preserved-in-34
loop-first-preserved-in-34 c = record {
  within = omega (arith, c.in-Some.ensures.cases.1, c.loop-first.invariant.within, c.skip_quotes-rest.ensures.shorter);
  keeps = λ behind h. c.loop-first.invariant.keeps behind (subst (λ t. BehindPattern t behind) (sym (c.in-Some.ensures.cases.0 ∙ ap (λ x. x ∷ c.in-Some.behind.now) c.in-34.is))
      (past_quotes c.in-Some.behind.now c.skip_quotes-rest.result.now behind c.skip_quotes-rest.ensures.behind h));
}

pub loop-first-preserved-in-91 : goal.loop-first-preserved-in-91
loop-first-preserved-in-91 c = record {
  within = omega (arith, c.in-Some.ensures.cases.1, c.loop-first.invariant.within, c.skip_brackets-rest.ensures.shorter, c.skip_first.ensures.shorter, c.skip_first-in-91.ensures.shorter);
  keeps = λ behind h. c.loop-first.invariant.keeps behind (subst (λ t. BehindPattern t behind) (sym (c.in-Some.ensures.cases.0 ∙ ap (λ x. x ∷ c.in-Some.behind.now) c.in-91.is))
      (past_brackets c.in-Some.behind.now c.skip_brackets-rest.result.now behind
      (subst (λ t. BehindBrackets t c.skip_brackets-rest.result.now) (c.skip_first-in-91.ensures.value ∙ ap (skip_first 93) c.skip_first.ensures.value) c.skip_brackets-rest.ensures.behind) h));
}

pub loop-first-preserved : goal.loop-first-preserved
loop-first-preserved c = record {
  within = omega (arith, c.in-Some.ensures.cases.1, c.loop-first.invariant.within);
  keeps = λ behind h. c.loop-first.invariant.keeps behind (subst (λ t. BehindPattern t behind) (sym c.in-Some.ensures.cases.0)
      (past_byte c.in-Some.first.now c.in-Some.behind.now behind (sym c.is_blank.ensures ∙ c.if-is_blank.false) (omega arith) (omega arith) (omega arith) h));
}

pub returns-clause-behind : goal.returns-clause-behind
returns-clause-behind c =
    let none : c.loop-first.rest.now ≡ [] = no_bytes c.loop-first.rest.now c.in_default.ensures.cases in
    c.loop-first.invariant.keeps c.loop-first.rest.now (subst (λ t. BehindPattern t t) (sym none) at_end)
