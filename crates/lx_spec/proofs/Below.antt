-- Each definition that definitions mention is one of them.
use Rattle.std.proofs.Common.{◌≡◌, ℕ, suc, ◌+◌, ◌≤◌, ◌<◌, nat_lt, cond, Bool, true, false, List, [], ◌∷◌, ◌++◌, length, map, Option, Some, None, refl, ap, sym, subst, ◌∙◌, arith, nat_eq}
use Rattle.std.specs.Prelude.{slice_index}
use Rattle.std.specs.List.{AllByRecursion, cons_option, filter_map, position, position_or_len}
use Rattle.std.specs.Cmp.Lexicographic.{pointwise}
use Rattle.std.proofs.lemmas.Bool.Decides.{nat_tests}
use Rattle.std.proofs.lemmas.List.Elements.{All-from_recursion}
use Rattle.std.proofs.lemmas.List.{length-map}
use Rattle.lx_ere.specs.Regex.{Regex}
use Rattle.lx_rules.specs.Names.{names_of}
use Rattle.lx_spec.specs.Sections.{RawDefinition}
use Rattle.lx_spec.specs.Graph.{AreBelow, nowhere}
use Rattle.lx_spec.specs.Dictionary.{AreTrees, number_of, row_of, row_in, mention_of, mentions_in, mentions_from, is_incomplete}
use Rattle.lx_spec.specs.views.Dictionaries.{Known, IsDictionary}
use Rattle.lx_spec.specs.declared.graph.Mention.{Mention}

abbrev pub Below : ℕ → Mention → Type 0
Below n m = (m.from < n) × (m.to < n)

place-within : {X : Type 0} (p : X → Bool) (xs : List X) (i : ℕ) → position p xs ≡ Some i → i < length xs
place-within p xs i e = by (nat_lt (position_or_len p xs) (length xs)) refl e where
  by : (b : Bool) → nat_lt (position_or_len p xs) (length xs) ≡ b → cond b (Some (position_or_len p xs)) None ≡ Some i → i < length xs
  by true t h = let same : position_or_len p xs ≡ i = cc in let less : position_or_len p xs < length xs = grind (arith, nat_tests) in omega (arith, same, less)
  by false t h = cc

pub row-below : (raw_definitions : List RawDefinition) (names : List (List ℕ)) → AllByRecursion (λ j. j < length raw_definitions) (filter_map (number_of raw_definitions) names)
row-below raw_definitions [] = tt
row-below raw_definitions (name ∷ names) = by (number_of raw_definitions name) refl (row-below raw_definitions names) where
  by : (o : Option ℕ) → number_of raw_definitions name ≡ o → AllByRecursion (λ j. j < length raw_definitions) (filter_map (number_of raw_definitions) names) → AllByRecursion (λ j. j < length raw_definitions) (filter_map (number_of raw_definitions) (name ∷ names))
  by None e more = subst (λ (o : Option ℕ). AllByRecursion (λ j. j < length raw_definitions) (cons_option o (filter_map (number_of raw_definitions) names))) (sym e) more
  by (Some j) e more = subst (λ (o : Option ℕ). AllByRecursion (λ j'. j' < length raw_definitions) (cons_option o (filter_map (number_of raw_definitions) names))) (sym e) (place-within (λ d. pointwise nat_eq d.name name) raw_definitions j e, more)

mentions-below : (n i : ℕ) (row : List ℕ) → i < n → AllByRecursion (λ j. j < n) row → AllByRecursion (Below n) (map (mention_of i) row)
mentions-below n i [] less all = tt
mentions-below n i (j ∷ row) less all = ((less, all.0), mentions-below n i row less all.1)

all-append : {X : Type 0} (P : X → Type 0) (xs ys : List X) → AllByRecursion P xs → AllByRecursion P ys → AllByRecursion P (xs ++ ys)
all-append P [] ys a b = b
all-append P (x ∷ xs) ys a b = (a.0, all-append P xs ys a.1 b)

in-below : (raw_definitions : List RawDefinition) (t : Option Regex) → AllByRecursion (λ j. j < length raw_definitions) (row_in raw_definitions t)
in-below raw_definitions None = tt
in-below raw_definitions (Some u) = row-below raw_definitions (names_of u)

from-below : (raw_definitions : List RawDefinition) (i : ℕ) (trees : List (Option Regex)) → i + length trees ≤ length raw_definitions → AllByRecursion (Below (length raw_definitions)) (mentions_from raw_definitions i trees)
from-below raw_definitions i [] le = tt
from-below raw_definitions i (t ∷ trees) le =
    all-append (Below (length raw_definitions)) (mentions_in raw_definitions i t) (mentions_from raw_definitions (suc i) trees) (mentions-below (length raw_definitions) i (row_in raw_definitions t) (omega arith) (in-below raw_definitions t)) (from-below raw_definitions (suc i) trees (omega arith))

pub trees-length : (raw_definitions : List RawDefinition) (trees : List (Option Regex)) → AreTrees raw_definitions trees → length trees ≡ length raw_definitions
trees-length [] [] are = refl
trees-length [] (t ∷ trees) are = absurd are
trees-length (d ∷ raw_definitions) [] are = absurd are
trees-length (d ∷ raw_definitions) (t ∷ trees) are = ap suc (trees-length raw_definitions trees are.1)

-- All mentions are of definitions that were read.
pub dictionary-below : (raw_definitions : List RawDefinition) (known : Known) → IsDictionary raw_definitions known → AreBelow known.mentions (length known.trees)
dictionary-below raw_definitions known d =
    let same : length known.trees ≡ length raw_definitions = trees-length raw_definitions known.trees d.trees in
    let le : 0 + length known.trees ≤ length raw_definitions = omega arith in
    let all = All-from_recursion (Below (length raw_definitions)) (mentions_from raw_definitions 0 known.trees) (from-below raw_definitions 0 known.trees le) in
    subst (λ (n : ℕ). AreBelow known.mentions n) (sym same) (subst (λ (ms : List Mention). AreBelow ms (length raw_definitions)) (sym d.mentions) (λ k less. all k nowhere less))

pub incomplete-length : (raw_definitions : List RawDefinition) (known : Known) → IsDictionary raw_definitions known → length known.incomplete ≡ length known.trees
incomplete-length raw_definitions known d = ap length d.incomplete ∙ length-map known.trees (is_incomplete raw_definitions)

pub row-within : (raw_definitions : List RawDefinition) (tree : Regex) (k : ℕ) → k < length (row_of raw_definitions tree) → slice_index (row_of raw_definitions tree) k < length raw_definitions
row-within raw_definitions tree k less = All-from_recursion (λ j. j < length raw_definitions) (row_of raw_definitions tree) (row-below raw_definitions (names_of tree)) k 0 less
