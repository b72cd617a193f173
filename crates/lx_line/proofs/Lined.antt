-- Lines of items.
use Rattle.std.proofs.Common.{◌≡◌, ℕ, ◌+◌, ◌-◌, List, ◌++◌, length, take, drop, take-add, length-drop, sym, ◌∙◌, ap, arith, append_assoc}
use Rattle.std.proofs.lemmas.Grind.{flat_map-append}
use Rattle.std.proofs.lemmas.List.{take_all}
use Rattle.std.specs.List.{flat_map}

-- the elements after the first ones
pub rest_all : {X : Type 0} (xs : List X) (done : ℕ) → take (length xs - done) (drop done xs) ≡ drop done xs
rest_all xs done = take_all (length xs - done) (drop done xs) (omega (arith, length-drop done xs))

-- the texts of some first elements, and then those of further ones
pub texts_more : {X : Type 0} (text : X → List ℕ) (before mid new : List ℕ) (xs : List X) (done count : ℕ) → mid ≡ before ++ flat_map text (take done xs) → new ≡ mid ++ flat_map text (take count (take (length xs - done) (drop done xs))) → new ≡ before ++ flat_map text (take (done + count) xs)
texts_more {X} text before mid new xs done count p q =
    q
    ∙ ap (λ (bs : List ℕ). bs ++ flat_map text (take count (take (length xs - done) (drop done xs)))) p
    ∙ ap (λ (ys : List X). (before ++ flat_map text (take done xs)) ++ flat_map text (take count ys)) (rest_all xs done)
    ∙ append_assoc before (flat_map text (take done xs)) (flat_map text (take count (drop done xs)))
    ∙ ap (λ (bs : List ℕ). before ++ bs) (sym (flat_map-append text (take done xs) (take count (drop done xs))) ∙ ap (flat_map text) (sym (take-add done count xs)))
