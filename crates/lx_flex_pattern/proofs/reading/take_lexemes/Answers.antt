use Rattle.std.proofs.Common.{◌≡◌, [], ◌∷◌, List, length, map, refl, sym, ap, ◌∙◌, arith}
use Rattle.std.specs.Option.{option_and_then}
use Rattle.lx_ere.specs.Groups.{groups_of}
use Rattle.lx_ere.specs.Lexemes.{lexeme_of}
use Rattle.lx_ere.specs.Stacks.{run}
use Rattle.lx_flex_pattern.proofs.reading.take_lexemes.Goals as goal

no_items : {A : Type 0} (xs : List A) → length xs ≡ 0 → xs ≡ []
no_items [] e = refl
no_items (x ∷ xs) e = absurd (omega (arith, e))

pub returns-in_default : goal.returns-in_default
returns-in_default c =
    let next = rw c.in_default.is at c.in_ok-next.ensures in
    ap (option_and_then (run (map lexeme_of c.next.new.self.rest.items))) next
    ∙ (ap (λ ls. run (map lexeme_of ls) (groups_of c.loop-lexeme.groups)) (sym c.in-Some.ensures.steps.0) ∙ c.loop-lexeme.invariant)

pub loop-lexeme-preserved : goal.loop-lexeme-preserved
loop-lexeme-preserved c =
    let next = rw c.in-Some-2.is at c.in_ok-next.ensures in
    ap (option_and_then (run (map lexeme_of c.next.new.self.rest.items))) next
    ∙ (ap (λ ls. run (map lexeme_of ls) (groups_of c.loop-lexeme.groups)) (sym c.in-Some.ensures.steps.0) ∙ c.loop-lexeme.invariant)

pub returns : goal.returns
returns c =
    let long = c.loop-lexeme.lexeme-iterator.rest.ok.0 in
    let none : c.loop-lexeme.lexeme-iterator.rest.items ≡ [] = no_items c.loop-lexeme.lexeme-iterator.rest.items (omega (arith, c.in-None.ensures.steps.0)) in
    ap (λ ls. run (map lexeme_of ls) (groups_of c.loop-lexeme.groups)) (sym none) ∙ c.loop-lexeme.invariant
