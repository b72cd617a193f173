-- Tests that hold together, and of all elements of a list.
use Rattle.std.proofs.Common.{Bool, true, false, ◌&&◌, List, [], ◌∷◌, ◌++◌, refl}
use Rattle.std.specs.Prelude.{IsTrue}
use Rattle.std.specs.List.{list_all}

pub both : (a b : Bool) → IsTrue a → IsTrue b → IsTrue (a && b)
both true b h g = g
both false b h g = h

pub left-of : (a b : Bool) → IsTrue (a && b) → IsTrue a
left-of true b h = refl
left-of false b h = h

pub right-of : (a b : Bool) → IsTrue (a && b) → IsTrue b
right-of true b h = h
right-of false b h = cc

pub all-push : {X : Type 0} (p : X → Bool) (xs : List X) (x : X) → IsTrue (list_all p xs) → IsTrue (p x) → IsTrue (list_all p (xs ++ x ∷ []))
all-push p [] x h g = both (p x) true g refl
all-push p (y ∷ xs) x h g = both (p y) (list_all p (xs ++ x ∷ [])) (left-of (p y) (list_all p xs) h) (all-push p xs x (right-of (p y) (list_all p xs) h) g)
