-- Lists that are seen through a view, element by element.
use Rattle.std.proofs.Common.{◌≡◌, ℕ, zero, suc, List, [], ◌∷◌, Some, None, map, ap}
use Rattle.std.specs.Prelude.{slice_get}

pub viewed_at : {X Y : Type 0} (view : X → Y) (xs : List X) (i : ℕ) (x : X) → slice_get xs i ≡ Some x → slice_get (map view xs) i ≡ Some (view x)
viewed_at view [] i x at = absurd (let e : None ≡ Some x = at in cc)
viewed_at view (y ∷ xs) zero x at = let e : y ≡ x = cc in ap (λ z. Some (view z)) e
viewed_at view (y ∷ xs) (suc i) x at = viewed_at view xs i x at
