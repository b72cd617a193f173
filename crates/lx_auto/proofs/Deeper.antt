-- If the names of an expression are defined and nested at most this deep, unfolding them deeper changes nothing.
use Rattle.std.proofs.Common.{◌≡◌, ◌∙◌, ℕ, zero, suc, ◌+◌, ◌*◌, IsTrue, Bool, true, false, List, [], ◌∷◌, Option, Some, None, refl, ap, ap₂, arith}
use Rattle.std.specs.List.{list_all}
use Rattle.std.proofs.lemmas.Bool.{false≢true}
use Rattle.lx_ere.specs.Regex.{Regex, nil, one_of, then, or, times, named}
use Rattle.lx_rules.specs.Names.{names_of}
use Rattle.lx_rules.specs.Nesting.{tree_named, holds_of, is_no_name, is_within}
use Rattle.lx_rules.specs.Plain.{PlainDefinition}
use Rattle.lx_auto.specs.Unfolded.{Unfolded}
use Rattle.lx_auto.specs.Counts.{copies_of, count_in, count_if_defined, count_of_name}
use Rattle.lx_auto.specs.Simplified.{cat_of, alt_of, simplified_repeated, simplified, simplified_if_defined, simplified_name}
use Rattle.lx_auto.proofs.Appending.{and-left, all-left, all-right}

simplified-same : (f g : List ℕ → Unfolded) (good : List ℕ → Bool) → ((name : List ℕ) → IsTrue (good name) → f name ≡ g name) → (tree : Regex) → IsTrue (list_all good (names_of tree)) → simplified f tree ≡ simplified g tree
simplified-same f g good e nil w = refl
simplified-same f g good e (one_of s) w = refl
simplified-same f g good e (then a b) w = ap₂ cat_of (simplified-same f g good e a (all-left good (names_of a) (names_of b) w)) (simplified-same f g good e b (all-right good (names_of a) (names_of b) w))
simplified-same f g good e (or a b) w = ap₂ alt_of (simplified-same f g good e a (all-left good (names_of a) (names_of b) w)) (simplified-same f g good e b (all-right good (names_of a) (names_of b) w))
simplified-same f g good e (times body low high) w = ap (λ (r : Unfolded). simplified_repeated r low high) (simplified-same f g good e body w)
simplified-same f g good e (named name) w = e name (and-left (good name) true w)

count-same : (f g : List ℕ → ℕ) (good : List ℕ → Bool) → ((name : List ℕ) → IsTrue (good name) → f name ≡ g name) → (tree : Regex) → IsTrue (list_all good (names_of tree)) → count_in f tree ≡ count_in g tree
count-same f g good e nil w = refl
count-same f g good e (one_of s) w = refl
count-same f g good e (then a b) w = ap₂ (λ (m n : ℕ). m + n) (count-same f g good e a (all-left good (names_of a) (names_of b) w)) (count-same f g good e b (all-right good (names_of a) (names_of b) w))
count-same f g good e (or a b) w = ap₂ (λ (m n : ℕ). m + n) (count-same f g good e a (all-left good (names_of a) (names_of b) w)) (count-same f g good e b (all-right good (names_of a) (names_of b) w))
count-same f g good e (times body low high) w = ap (λ (n : ℕ). copies_of low high * n) (count-same f g good e body w)
count-same f g good e (named name) w = e name (and-left (good name) true w)

nothing-good : (names : List (List ℕ)) → IsTrue (is_no_name names) → IsTrue (list_all (λ name. false) names)
nothing-good [] h = refl
nothing-good (name ∷ names) h = h

one-more : (k n : ℕ) → k + suc n ≡ suc (k + n)
one-more k n = omega arith

-- the same for a name's expression, given it for each expression one level less deep
simplified_if-same : (p : Regex → Bool) (f g : List ℕ → Unfolded) → ((tree : Regex) → IsTrue (p tree) → simplified f tree ≡ simplified g tree) → (o : Option Regex) → IsTrue (holds_of p o) → simplified_if_defined f o ≡ simplified_if_defined g o
simplified_if-same p f g e None w = refl
simplified_if-same p f g e (Some tree) w = e tree w

count_if-same : (p : Regex → Bool) (f g : List ℕ → ℕ) → ((tree : Regex) → IsTrue (p tree) → count_in f tree ≡ count_in g tree) → (o : Option Regex) → IsTrue (holds_of p o) → count_if_defined f o ≡ count_if_defined g o
count_if-same p f g e None w = refl
count_if-same p f g e (Some tree) w = e tree w

pub simplified-deeper : (definitions : List PlainDefinition) (k n : ℕ) (tree : Regex) → IsTrue (is_within n definitions tree) → simplified (simplified_name definitions (k + n)) tree ≡ simplified (simplified_name definitions n) tree
simplified-deeper definitions k zero tree w =
    simplified-same (simplified_name definitions (k + 0)) (simplified_name definitions 0) (λ name. false) (λ name h. absurd (false≢true h)) tree (nothing-good (names_of tree) w)
simplified-deeper definitions k (suc n) tree w =
    ap (λ (m : ℕ). simplified (simplified_name definitions m) tree) (one-more k n)
    ∙ simplified-same (simplified_name definitions (suc (k + n))) (simplified_name definitions (suc n)) (λ name. holds_of (is_within n definitions) (tree_named definitions name))
    (λ name. simplified_if-same (is_within n definitions) (simplified_name definitions (k + n)) (simplified_name definitions n) (simplified-deeper definitions k n) (tree_named definitions name)) tree w

pub count-deeper : (definitions : List PlainDefinition) (k n : ℕ) (tree : Regex) → IsTrue (is_within n definitions tree) → count_in (count_of_name definitions (k + n)) tree ≡ count_in (count_of_name definitions n) tree
count-deeper definitions k zero tree w =
    count-same (count_of_name definitions (k + 0)) (count_of_name definitions 0) (λ name. false) (λ name h. absurd (false≢true h)) tree (nothing-good (names_of tree) w)
count-deeper definitions k (suc n) tree w =
    ap (λ (m : ℕ). count_in (count_of_name definitions m) tree) (one-more k n)
    ∙ count-same (count_of_name definitions (suc (k + n))) (count_of_name definitions (suc n)) (λ name. holds_of (is_within n definitions) (tree_named definitions name))
    (λ name. count_if-same (is_within n definitions) (count_of_name definitions (k + n)) (count_of_name definitions n) (count-deeper definitions k n) (tree_named definitions name)) tree w
