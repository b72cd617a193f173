-- The place of the first element that passes, in a list with one element more.
use Rattle.std.proofs.Common.{◌≡◌, ◌∙◌, ℕ, suc, ◌+◌, ◌<◌, ◌≤◌, Bool, true, false, not, ◌||◌, cond, nat_lt, List, [], ◌∷◌, ◌++◌, length, take, get_or, Option, Some, None, refl, ap, sym, arith, add-one}
use Rattle.std.specs.Prelude.{is_some}
use Rattle.std.specs.List.{list_any, position, position_or_len}
use Rattle.std.specs.Option.{option_or}
use Rattle.std.proofs.lemmas.Bool.Decides.{nat_tests}
use Rattle.std.proofs.Math.Dec.{eqb}
use Rattle.std.proofs.Math.Seq.{take-suc}
use Rattle.std.proofs.lemmas.List.{length-append, length-take-le}
use Rattle.std.proofs.lemmas.List.Folds.{position_or_len_push}
use Rattle.std.proofs.lemmas.List.Sums.{prefix_len-le-length}

-- the place of the first one that passes, in a list with one more at its end
pub position-push : {X : Type 0} (p : X → Bool) (xs : List X) (y : X) → position p (xs ++ y ∷ []) ≡ option_or (position p xs) (cond (p y) (Some (length xs)) None)
position-push p xs y = by (nat_lt n (length xs)) refl where
  n : ℕ
  n = position_or_len p xs

  few : n ≤ length xs
  few = prefix_len-le-length (λ x. not (p x)) xs

  placed : ℕ → ℕ → Option ℕ
  placed k l = cond (nat_lt k l) (Some k) None

  long : length (xs ++ y ∷ []) ≡ length xs + 1
  long = omega (arith, length-append xs (y ∷ []))

  at : position_or_len p (xs ++ y ∷ []) ≡ cond (eqb n (length xs)) (length xs + cond (p y) 0 1) n
  at = position_or_len_push p xs y

  last : (b : Bool) → placed (length xs + cond b 0 1) (length xs + 1) ≡ cond b (Some (length xs)) None
  last true = grind (arith, nat_tests)
  last false = grind (arith, nat_tests)

  by : (b : Bool) → nat_lt n (length xs) ≡ b → position p (xs ++ y ∷ []) ≡ option_or (position p xs) (cond (p y) (Some (length xs)) None)
  by true h =
      let apart : eqb n (length xs) ≡ false = grind (arith, nat_tests, few) in
      let less : nat_lt n (length xs + 1) ≡ true = grind (arith, nat_tests, few) in
      ap (λ (k : ℕ). placed k (length (xs ++ y ∷ []))) (at ∙ ap (λ (b : Bool). cond b (length xs + cond (p y) 0 1) n) apart) ∙ ap (placed n) long ∙ ap (λ (b : Bool). cond b (Some n) None) less
      ∙ sym (ap (λ (b : Bool). option_or (cond b (Some n) None) (cond (p y) (Some (length xs)) None)) h)
  by false h =
      let same : eqb n (length xs) ≡ true = grind (arith, nat_tests, few) in
      ap (λ (k : ℕ). placed k (length (xs ++ y ∷ []))) (at ∙ ap (λ (b : Bool). cond b (length xs + cond (p y) 0 1) n) same) ∙ ap (placed (length xs + cond (p y) 0 1)) long ∙ last (p y)
      ∙ sym (ap (λ (b : Bool). option_or (cond b (Some n) None) (cond (p y) (Some (length xs)) None)) h)

-- the place of the first one that passes among one element more
pub position-more : {X : Type 0} (p : X → Bool) (xs : List X) (i : ℕ) (d : X) → i < length xs → position p (take (i + 1) xs) ≡ option_or (position p (take i xs)) (cond (p (get_or xs i d)) (Some i) None)
position-more p xs i d less =
    ap (λ (k : ℕ). position p (take k xs)) (add-one i) ∙ ap (position p) (take-suc xs i d less) ∙ position-push p (take i xs) (get_or xs i d)
    ∙ ap (λ (k : ℕ). option_or (position p (take i xs)) (cond (p (get_or xs i d)) (Some k) None)) (length-take-le i xs (omega (arith, less)))

placed-behind : (b : Bool) (n l : ℕ) (any : Bool) → nat_lt n l ≡ any → nat_lt (cond (not b) (1 + n) 0) (suc l) ≡ (b || any)
placed-behind true n l any e = let less : nat_lt 0 (suc l) ≡ true = grind (arith, nat_tests) in less
placed-behind false n l any e = let same : nat_lt (1 + n) (suc l) ≡ nat_lt n l = grind (arith, nat_tests) in same ∙ e

any-placed : {X : Type 0} (p : X → Bool) (xs : List X) → nat_lt (position_or_len p xs) (length xs) ≡ list_any p xs
any-placed p [] = refl
any-placed p (x ∷ xs) = placed-behind (p x) (position_or_len p xs) (length xs) (list_any p xs) (any-placed p xs)

-- there is a place if and only if an element passes
pub position-any : {X : Type 0} (p : X → Bool) (xs : List X) → is_some (position p xs) ≡ list_any p xs
position-any p xs = by (nat_lt (position_or_len p xs) (length xs)) ∙ any-placed p xs where
  by : (b : Bool) → is_some (cond b (Some (position_or_len p xs)) None) ≡ b
  by true = refl
  by false = refl
