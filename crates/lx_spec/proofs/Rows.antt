-- Rows of numbers, and places in lists that are seen through a view.
use Rattle.std.specs.Prelude.{slice_get}
use Rattle.std.proofs.Common.{◌≡◌, ℕ, zero, suc, get_or, arith, ◌+◌, ◌<◌, Bool, not, ◌&&◌, cond, nat_lt, List, [], ◌∷◌, ◌++◌, length, map, Some, None, refl, ap, sym, ◌∙◌, append_assoc}
use Rattle.std.specs.List.{position, position_or_len, prefix_len, filter_map, list_all}
use Rattle.std.proofs.lemmas.List.{length-map}
use Rattle.lx_ere.specs.Regex.{Regex}
use Rattle.lx_rules.specs.Names.{names_of}
use Rattle.lx_spec.specs.Sections.{RawDefinition}
use Rattle.lx_spec.specs.Dictionary.{number_of, row_of}
use Rattle.std.proofs.lemmas.List.Elements.{filter_map-append}
use Rattle.std.proofs.lemmas.List.Folds.{list_all-append}

pub prefix_len-map : {X Y : Type 0} (p : Y → Bool) (v : X → Y) (xs : List X) → prefix_len p (map v xs) ≡ prefix_len (λ x. p (v x)) xs
prefix_len-map p v [] = refl
prefix_len-map p v (x ∷ xs) = ap (λ (n : ℕ). cond (p (v x)) (1 + n) 0) (prefix_len-map p v xs)

pub position-map : {X Y : Type 0} (p : Y → Bool) (v : X → Y) (xs : List X) → position p (map v xs) ≡ position (λ x. p (v x)) xs
position-map p v xs =
    let n : position_or_len p (map v xs) ≡ position_or_len (λ x. p (v x)) xs = prefix_len-map (λ y. not (p y)) v xs in
    ap (λ (k : ℕ). cond (nat_lt k (length (map v xs))) (Some k) None) n ∙ ap (λ (l : ℕ). cond (nat_lt (position_or_len (λ x. p (v x)) xs) l) (Some (position_or_len (λ x. p (v x)) xs)) None) (length-map xs v)

pub ruleset place_steps = (position-map)

pub ruleset row_steps = (filter_map-append, list_all-append)

-- the row of two expressions, one after the other
pub row-joined : (raw_definitions : List RawDefinition) (a b : Regex) (names : List (List ℕ)) (old mid new : List ℕ) → names ≡ names_of a ++ names_of b → mid ≡ old ++ row_of raw_definitions a → new ≡ mid ++ row_of raw_definitions b → new ≡ old ++ filter_map (number_of raw_definitions) names
row-joined raw_definitions a b names old mid new e f g =
    g ∙ ap (λ (l : List ℕ). l ++ row_of raw_definitions b) f ∙ append_assoc old (row_of raw_definitions a) (row_of raw_definitions b)
    ∙ ap (λ (l : List ℕ). old ++ l) (sym (filter_map-append (number_of raw_definitions) (names_of a) (names_of b))) ∙ ap (λ (l : List (List ℕ)). old ++ filter_map (number_of raw_definitions) l) (sym e)

-- an element of a list seen through a view
pub at_map : {X Y : Type 0} (f : X → Y) (xs : List X) (i : ℕ) (d : X) → i < length xs → slice_get (map f xs) i ≡ Some (f (get_or xs i d))
at_map f [] i d less = absurd (omega arith)
at_map f (x ∷ xs) zero d less = refl
at_map f (x ∷ xs) (suc i) d less = at_map f xs i d (omega arith)

pub list_all-map : {X Y : Type 0} (p : Y → Bool) (v : X → Y) (xs : List X) → list_all p (map v xs) ≡ list_all (λ x. p (v x)) xs
list_all-map p v [] = refl
list_all-map p v (x ∷ xs) = ap (λ (b : Bool). p (v x) && b) (list_all-map p v xs)
