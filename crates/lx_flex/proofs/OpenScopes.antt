-- The scopes in a list, of which the last is the innermost one.
use Rattle.std.proofs.Common.{ℕ, suc, ◌≡◌, ◌-◌, List, [], ◌∷◌, ◌++◌, Option, Some, length, map, reverse, refl, sym, ◌∙◌, ap, arith}
use Rattle.std.specs.Prelude.{slice_get}
use Rattle.std.proofs.lemmas.List.{map-append, reverse-append}
use Rattle.lx_flex.specs.States.{innermost}

pub reverse_more : {X : Type 0} (f : X → List ℕ) (xs : List X) (x : X) → reverse (map f (xs ++ x ∷ [])) ≡ f x ∷ reverse (map f xs)
reverse_more f xs x = ap reverse (map-append f xs (x ∷ [])) ∙ reverse-append (map f xs) (f x ∷ [])

innermost_more : (zs ws : List (List ℕ)) (y : List ℕ) → innermost (zs ++ y ∷ ws) ≡ innermost (zs ++ y ∷ [])
innermost_more [] ws y = refl
innermost_more (x ∷ zs) ws y = refl

innermost_cons : (y z : List ℕ) (ys : List (List ℕ)) → innermost (reverse (y ∷ z ∷ ys)) ≡ innermost (reverse (z ∷ ys))
innermost_cons y z ys =
    ap innermost (reverse-append (y ∷ z ∷ []) ys) ∙ (innermost_more (reverse ys) (y ∷ []) z ∙ ap innermost (sym (reverse-append (z ∷ []) ys)))

pub innermost_last : {X : Type 0} (f : X → List ℕ) (xs : List X) (x : X) → slice_get xs (length xs - 1) ≡ Some x → innermost (reverse (map f xs)) ≡ f x
innermost_last f [] x h = cc
innermost_last f (a ∷ []) x h = cc
innermost_last f (a ∷ b ∷ xs) x h =
    let index : length (a ∷ b ∷ xs) - 1 ≡ suc (length (b ∷ xs) - 1) = omega arith in
    innermost_cons (f a) (f b) (map f xs) ∙ innermost_last f (b ∷ xs) x (rw index at h)

pub innermost_of_last : {X : Type 0} (f : X → List ℕ) (xs ys : List X) (o : Option X) (x : X) → ys ≡ xs → o ≡ slice_get ys (length ys - 1) → o ≡ Some x →
    innermost (reverse (map f xs)) ≡ f x
innermost_of_last f xs ys o x same is some = ap (λ zs. innermost (reverse (map f zs))) (sym same) ∙ innermost_last f ys x (sym is ∙ some)
