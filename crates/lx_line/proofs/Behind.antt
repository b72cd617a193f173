-- The bytes after some bytes, once more bytes follow.
use Rattle.std.proofs.Common.{◌≡◌, ℕ, List, ◌++◌, refl, ◌∙◌, ap, append_assoc, if◌then◌else◌}
use Rattle.std.specs.Prelude.{Result, Ok, Err, OnOk, codes, decimal, is_ok}

pub behind : (old q x p new : List ℕ) → p ≡ old ++ q → new ≡ p ++ x → new ≡ old ++ (q ++ x)
behind old q x p new h k = k ∙ ap (λ bytes. bytes ++ x) h ∙ append_assoc old q x

pub behind_two : (old q x y p new : List ℕ) → p ≡ old ++ q → new ≡ (p ++ x) ++ y → new ≡ old ++ ((q ++ x) ++ y)
behind_two old q x y p new h k = behind old (q ++ x) y (old ++ (q ++ x)) new refl (k ∙ ap (λ bytes. bytes ++ y) (ap (λ bytes. bytes ++ x) h ∙ append_assoc old q x))

-- a number and a space
pub number_behind : (old q p new : List ℕ) (n m : ℕ) → n ≡ m → p ≡ old ++ q → new ≡ (p ++ decimal n) ++ codes " " → new ≡ old ++ ((q ++ decimal m) ++ codes " ")
number_behind old q p new n m e h k = behind_two old q (decimal m) (codes " ") p new h (k ∙ ap (λ d. (p ++ decimal d) ++ codes " ") e)

-- by a call that may fail
pub behind_ok : {T E : Type 0} (r : Result T E) (old q x p new : List ℕ) → p ≡ old ++ q → new ≡ (if is_ok r then p ++ x else p) → OnOk r (new ≡ old ++ (q ++ x))
behind_ok (Ok value) old q x p new h k = behind old q x p new h k
behind_ok (Err error) old q x p new h k = tt

-- the same bytes, by a call that may fail
pub ok_as : {T E : Type 0} (r : Result T E) (old x y new : List ℕ) → x ≡ y → OnOk r (new ≡ old ++ x) → OnOk r (new ≡ old ++ y)
ok_as (Ok value) old x y new e h = h ∙ ap (λ bytes. old ++ bytes) e
ok_as (Err error) old x y new e h = tt
