use Rattle.std.proofs.Common.{◌≡◌, ◌∙◌, [], ◌∷◌, length, sym, ap, subst, arith, length-drop}
use Rattle.lx_ere.specs.PatternGrammar.{BehindQuotes, quote_closes, quote_open, quote_byte}
use Rattle.lx_ere.proofs.EndLemmas.{no_bytes, quotes_escape}
use Rattle.lx_ere.proofs.extent.skip_quotes.Goals as goal

pub returns-then-first-eq34-clause-behind : goal.returns-then-first-eq34-clause-behind
returns-then-first-eq34-clause-behind c =
    c.loop-first.invariant.keeps c.in-Some.behind.now (subst (λ t. BehindQuotes t c.in-Some.behind.now) (sym (c.in-Some.ensures.cases.0 ∙ ap (λ x. x ∷ c.in-Some.behind.now) c.if-first-eq34.true)) (quote_closes c.in-Some.behind.now))

pub loop-first-preserved-then-first-eq92 : goal.loop-first-preserved-then-first-eq92
loop-first-preserved-then-first-eq92 c = record {
  within = omega (arith, c.in-Some.ensures.cases.1, c.loop-first.invariant.within, ap length c.skip-rest.ensures, length-drop 1 c.in-Some.behind.now);
  keeps = λ behind h. c.loop-first.invariant.keeps behind (subst (λ t. BehindQuotes t behind) (sym (c.in-Some.ensures.cases.0 ∙ ap (λ x. x ∷ c.in-Some.behind.now) c.if-first-eq92.true)) (quotes_escape c.in-Some.behind.now behind (subst (λ t. BehindQuotes t behind) c.skip-rest.ensures h)));
}

pub loop-first-preserved : goal.loop-first-preserved
loop-first-preserved c = record {
  within = omega (arith, c.in-Some.ensures.cases.1, c.loop-first.invariant.within);
  keeps = λ behind h. c.loop-first.invariant.keeps behind (subst (λ t. BehindQuotes t behind) (sym c.in-Some.ensures.cases.0) (quote_byte c.in-Some.first.now c.in-Some.behind.now behind c.if-first-eq34.false c.if-first-eq92.false h));
}

pub returns-clause-behind : goal.returns-clause-behind
returns-clause-behind c =
    let none : c.loop-first.rest.now ≡ [] = no_bytes c.loop-first.rest.now c.in_default.ensures.cases in
    c.loop-first.invariant.keeps c.loop-first.rest.now (subst (λ t. BehindQuotes t t) (sym none) quote_open)
