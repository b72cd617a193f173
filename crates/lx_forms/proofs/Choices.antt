-- Lists that are visited element by element.
use Rattle.std.proofs.Common.{ℕ, ◌≡◌, ◌+◌, ◌<◌, ◌≤◌, ◌||◌, Bool, true, false, List, [], ◌∷◌, ◌++◌, refl, sym, ◌∙◌, ap, length, take, drop, map, arith, append_assoc, append-nil, if◌then◌else◌}
use Rattle.std.specs.Prelude.{slice_index_or}
use Rattle.std.specs.List.{filter, flat_map, list_any}
use Rattle.std.proofs.lemmas.Grind.{flat_map-append}
use Rattle.std.proofs.lemmas.List.{drop_all, drop_more, take_more, get_or-map, length-map}
use Rattle.std.proofs.lemmas.List.Elements.{filter-append}

-- true if an element of a list passes a test
module _ {X : Type 0} (test : X → Bool) (xs : List X) (i : ℕ) (d : X) where
  any_at : i < length xs → list_any test (drop i xs) ≡ (test (slice_index_or xs i d) || list_any test (drop (i + 1) xs))
  any_at l = ap (list_any test) (drop_more xs i d l)

  pub any_here : i < length xs → test (slice_index_or xs i d) ≡ true → list_any test (drop i xs) ≡ true
  any_here l passes = any_at l ∙ ap (λ (b : Bool). b || list_any test (drop (i + 1) xs)) passes

  pub any_behind : i < length xs → test (slice_index_or xs i d) ≡ false → list_any test (drop (i + 1) xs) ≡ list_any test (drop i xs)
  any_behind l fails = sym (any_at l ∙ ap (λ (b : Bool). b || list_any test (drop (i + 1) xs)) fails)

pub any_none : {X : Type 0} (test : X → Bool) (xs : List X) (i : ℕ) → length xs ≤ i → list_any test (drop i xs) ≡ false
any_none test xs i l = ap (list_any test) (drop_all i xs l)

-- the same of a list that is mapped
module _ {X Y : Type 0} (f : X → Y) (test : Y → Bool) (xs : List X) (i : ℕ) (d : X) where
  mapped : i < length xs → slice_index_or (map f xs) i (f d) ≡ f (slice_index_or xs i d)
  mapped l = get_or-map f xs i d (f d) l

  within : i < length xs → i < length (map f xs)
  within l = omega (arith, l, length-map xs f)

  pub mapped_here : i < length xs → test (f (slice_index_or xs i d)) ≡ true → list_any test (drop i (map f xs)) ≡ true
  mapped_here l passes = any_here test (map f xs) i (f d) (within l) (ap test (mapped l) ∙ passes)

  pub mapped_behind : i < length xs → test (f (slice_index_or xs i d)) ≡ false → list_any test (drop (i + 1) (map f xs)) ≡ list_any test (drop i (map f xs))
  mapped_behind l fails = any_behind test (map f xs) i (f d) (within l) (ap test (mapped l) ∙ fails)

pub mapped_none : {X Y : Type 0} (f : X → Y) (test : Y → Bool) (xs : List X) (i : ℕ) → length xs ≤ i → list_any test (drop i (map f xs)) ≡ false
mapped_none f test xs i l = any_none test (map f xs) i (omega (arith, l, length-map xs f))

-- the result of one more element of a list
pub flat_more : {X Y : Type 0} (f : X → List Y) (old new : List Y) (xs : List X) (i : ℕ) (d : X) → i < length xs → new ≡ (old ++ flat_map f (take i xs)) ++ f (slice_index_or xs i d) → new ≡ old ++ flat_map f (take (i + 1) xs)
flat_more f old new xs i d l is =
    let x = slice_index_or xs i d in
    is
    ∙ append_assoc old (flat_map f (take i xs)) (f x)
    ∙ ap (λ ys. old ++ ys)
    (ap (λ ys. flat_map f (take i xs) ++ ys) (sym (append-nil (f x)))
    ∙ sym (flat_map-append f (take i xs) (x ∷ []))
    ∙ ap (flat_map f) (sym (take_more xs i d l)))

pub filter_more : {X : Type 0} (test : X → Bool) (ys zs : List X) (xs : List X) (i : ℕ) (d : X) → i < length xs → ys ≡ filter test (take i xs) →
    zs ≡ (if test (slice_index_or xs i d) then ys ++ slice_index_or xs i d ∷ [] else ys) → zs ≡ filter test (take (i + 1) xs)
filter_more test ys zs xs i d l before is =
    let x = slice_index_or xs i d in
    is ∙ one (test x) refl ∙ sym (filter-append test (take i xs) (x ∷ [])) ∙ ap (filter test) (sym (take_more xs i d l))
  where
    one : (b : Bool) → test (slice_index_or xs i d) ≡ b → (if b then ys ++ slice_index_or xs i d ∷ [] else ys) ≡ filter test (take i xs) ++ filter test (slice_index_or xs i d ∷ [])
    one true e = rw e (ap (λ fs. fs ++ slice_index_or xs i d ∷ []) before)
    one false e = rw e (before ∙ sym (append-nil (filter test (take i xs))))
