-- Texts that follow one another, one for each number.
use Rattle.std.proofs.Common.{ℕ, ◌≡◌, ◌<◌, ◌≤◌, ◌+◌, arith, List, [], ◌∷◌, ◌++◌, length, take, get_or, sym, ap, subst, ◌∙◌, append_assoc, append-nil}
use Rattle.std.proofs.lemmas.Grind.{flat_map-append}
use Rattle.std.proofs.lemmas.List.{take_all, take_more}
use Rattle.std.proofs.lemmas.List.FromFn.{length-range_with_len, get_or-range_with_len}
use Rattle.std.specs.List.{flat_map, range_with_len}

-- the texts of the first elements, and then that of the next
texts_more : {X : Type 0} (text : X → List ℕ) (xs : List X) (i : ℕ) (d : X) → i < length xs → flat_map text (take (i + 1) xs) ≡ flat_map text (take i xs) ++ text (get_or xs i d)
texts_more text xs i d l = ap (λ ys. flat_map text ys) (take_more xs i d l) ∙ (flat_map-append text (take i xs) (get_or xs i d ∷ []) ∙ ap (λ ys. flat_map text (take i xs) ++ ys) (append-nil (text (get_or xs i d))))

pub element_next : {X : Type 0} (text : X → List ℕ) (old mid new : List ℕ) (xs : List X) (i : ℕ) (d : X) → i < length xs
    → mid ≡ old ++ flat_map text (take i xs) → new ≡ mid ++ text (get_or xs i d) → new ≡ old ++ flat_map text (take (i + 1) xs)
element_next text old mid new xs i d l h k =
    k ∙ (ap (λ bs. bs ++ text (get_or xs i d)) h ∙ (append_assoc old (flat_map text (take i xs)) (text (get_or xs i d)) ∙ ap (λ bs. old ++ bs) (sym (texts_more text xs i d l))))

pub text_next : (text : ℕ → List ℕ) (old mid new : List ℕ) (n i : ℕ) → i < n
    → mid ≡ old ++ flat_map text (take i (range_with_len 0 n)) → new ≡ mid ++ text i → new ≡ old ++ flat_map text (take (i + 1) (range_with_len 0 n))
text_next text old mid new n i l h k =
    element_next text old mid new (range_with_len 0 n) i 0 (omega (arith, length-range_with_len 0 n)) h
    (let e : i ≡ get_or (range_with_len 0 n) i 0 = omega (arith, get_or-range_with_len 0 n i 0 l) in subst (λ j. new ≡ mid ++ text j) e k)

pub text_end : (text : ℕ → List ℕ) (old mid : List ℕ) (n i : ℕ) → n ≤ i → mid ≡ old ++ flat_map text (take i (range_with_len 0 n)) → mid ≡ old ++ flat_map text (range_with_len 0 n)
text_end text old mid n i l h =
    h ∙ ap (λ xs. old ++ flat_map text xs) (take_all i (range_with_len 0 n) (omega (arith, length-range_with_len 0 n)))

-- two texts, one after the other
pub two : (old one new x y : List ℕ) → one ≡ old ++ x → new ≡ one ++ y → new ≡ old ++ (x ++ y)
two old one new x y h k = k ∙ (ap (λ bs. bs ++ y) h ∙ append_assoc old x y)

-- three texts, one after the other
pub three : (old one two new x y z : List ℕ) → one ≡ old ++ x → two ≡ one ++ y → new ≡ two ++ z → new ≡ old ++ (x ++ (y ++ z))
three old one two new x y z h k l =
    l ∙ (ap (λ bs. bs ++ z) (k ∙ ap (λ bs. bs ++ y) h) ∙ (append_assoc (old ++ x) y z ∙ append_assoc old x (y ++ z)))
