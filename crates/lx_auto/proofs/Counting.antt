-- Counts that stop at the limit.
use Rattle.std.proofs.Common.{◌≡◌, ◌∙◌, ℕ, zero, suc, ◌+◌, ◌*◌, ◌≤◌, min, List, [], ◌∷◌, ◌++◌, map, get_or, Option, Some, None, refl, ap, ap₂, sym, arith, ◌-◌}
use Rattle.std.specs.Prelude.{slice_get}
use Rattle.std.specs.Option.{option_map}
use Rattle.lx_ere.specs.Regex.{Regex, nil, one_of, then, or, times, named, regex_of}
use Rattle.lx_rules.specs.Plain.{PlainDefinition, PlainRule}
use Rattle.lx_rules.specs.views.Rules.{definition_view}
use Rattle.lx_rules.specs.declared.definition.Definition.{Definition}
use Rattle.lx_auto.specs.Counts.{copies_of, count_in, count_if_defined, count_of_name, count_of_pattern, newline_count, count_of_rules}
use Rattle.lx_auto.specs.NameViews.{place_of, tree_at}
use Rattle.lx_auto.specs.CountViews.{count_of_place, looked_up, counts_behind, counts_at}
use Rattle.lx_auto.proofs.Naming.{place-tree}

sum-equal : (a b c d : ℕ) → min 16385 a ≡ min 16385 b → min 16385 c ≡ min 16385 d → min 16385 (a + c) ≡ min 16385 (b + d)
sum-equal a b c d e f = omega arith

suc_times : (n c : ℕ) → suc n * c ≡ c + n * c
suc_times n c = grind arith

product-equal : (n a b : ℕ) → min 16385 a ≡ min 16385 b → min 16385 (n * a) ≡ min 16385 (n * b)
product-equal zero a b e = let f : 0 * a ≡ 0 = omega arith in let g : 0 * b ≡ 0 = omega arith in omega arith
product-equal (suc n) a b e =
    let f = suc_times n a in
    let g = suc_times n b in
    let h = product-equal n a b e in
    omega arith

-- counts of names that are equal up to the limit yield equal counts of expressions
pub count-equal : (f g : List ℕ → ℕ) → ((name : List ℕ) → min 16385 (f name) ≡ min 16385 (g name)) → (tree : Regex) → min 16385 (count_in f tree) ≡ min 16385 (count_in g tree)
count-equal f g e nil = refl
count-equal f g e (one_of s) = refl
count-equal f g e (then a b) = sum-equal (count_in f a) (count_in g a) (count_in f b) (count_in g b) (count-equal f g e a) (count-equal f g e b)
count-equal f g e (or a b) = sum-equal (count_in f a) (count_in g a) (count_in f b) (count_in g b) (count-equal f g e a) (count-equal f g e b)
count-equal f g e (times body low high) = product-equal (copies_of low high) (count_in f body) (count_in g body) (count-equal f g e body)
count-equal f g e (named name) = e name

-- the entry of a list of numbers at an index, seen through a function
of_option : {X : Type 0} → (X → ℕ) → Option X → ℕ
of_option f None = 0
of_option f (Some x) = f x

get_or-seen : {X : Type 0} (f : X → ℕ) (xs : List X) (i : ℕ) → get_or (map f xs) i 0 ≡ of_option f (slice_get xs i)
unfolding of_option
get_or-seen f [] i = refl
get_or-seen f (x ∷ xs) zero = refl
get_or-seen f (x ∷ xs) (suc i) = get_or-seen f xs i

-- a name has as many positions as its definition
counted_place : (definitions : List Definition) (c : List ℕ → ℕ) (o : Option ℕ)
    → count_of_place (map (λ d. min 16385 (count_in c (regex_of d.expr))) definitions) o ≡ min 16385 (count_if_defined c (tree_at definitions o))
unfolding of_option
counted_place definitions c None = refl
counted_place definitions c (Some i) = get_or-seen (λ d. min 16385 (count_in c (regex_of d.expr))) definitions i ∙ by (slice_get definitions i) where
  by : (o : Option Definition) → of_option (λ d. min 16385 (count_in c (regex_of d.expr))) o ≡ min 16385 (count_if_defined c (option_map (λ d. regex_of d.expr) o))
  by None = refl
  by (Some d) = refl

pub looked-up : (definitions : List Definition) (n : ℕ) (name : List ℕ) → looked_up definitions (counts_at definitions n) name ≡ min 16385 (count_of_name (map definition_view definitions) (suc n) name)
unfolding counts_at
looked-up definitions n name =
    counted_place definitions (count_of_name (map definition_view definitions) n) (place_of definitions name)
    ∙ ap (λ (o : Option Regex). min 16385 (count_if_defined (count_of_name (map definition_view definitions) n) o)) (sym (place-tree definitions name))

twice : (a : ℕ) → min 16385 (min 16385 a) ≡ min 16385 a
twice a = omega arith

-- the count of an expression by the list of those of the definitions
pub count-by_list : (definitions : List Definition) (n : ℕ) (tree : Regex)
    → min 16385 (count_in (looked_up definitions (counts_at definitions n)) tree) ≡ min 16385 (count_in (count_of_name (map definition_view definitions) (suc n)) tree)
count-by_list definitions n tree =
    count-equal (looked_up definitions (counts_at definitions n)) (count_of_name (map definition_view definitions) (suc n))
    (λ name. ap (min 16385) (looked-up definitions n name) ∙ twice (count_of_name (map definition_view definitions) (suc n) name)) tree

map-same : (f g : Definition → ℕ) → ((d : Definition) → f d ≡ g d) → (xs : List Definition) → map f xs ≡ map g xs
map-same f g e [] = refl
map-same f g e (x ∷ xs) = ap₂ (λ (n : ℕ) (l : List ℕ). n ∷ l) (e x) (map-same f g e xs)

-- one level of names more
pub counts-next : (definitions : List Definition) (n : ℕ) → counts_behind definitions (counts_at definitions n) ≡ counts_at definitions (suc n)
unfolding counts_at
counts-next definitions n = map-same _ _ (λ d. count-by_list definitions n (regex_of d.expr)) definitions

no-place : (o : Option ℕ) → count_of_place [] o ≡ 0
no-place None = refl
no-place (Some i) = refl

pub counts-first : (definitions : List Definition) → counts_behind definitions [] ≡ counts_at definitions 0
unfolding counts_at
counts-first definitions =
    map-same _ _ (λ d. count-equal (looked_up definitions []) (count_of_name (map definition_view definitions) 0) (λ name. ap (min 16385) (no-place (place_of definitions name))) (regex_of d.expr)) definitions

-- once nothing changes, nothing changes later
settled : (definitions : List Definition) (n k : ℕ) → counts_behind definitions (counts_at definitions n) ≡ counts_at definitions n → counts_at definitions (k + n) ≡ counts_at definitions n
settled definitions n zero e = ap (counts_at definitions) (omega arith)
settled definitions n (suc k) e =
    ap (counts_at definitions) (let f : suc k + n ≡ suc (k + n) = omega arith in f) ∙ sym (counts-next definitions (k + n)) ∙ ap (counts_behind definitions) (settled definitions n k e) ∙ e

pub counts-settled : (definitions : List Definition) (counts : List ℕ) (n m : ℕ) → n ≤ m → counts ≡ counts_at definitions n → counts_behind definitions counts ≡ counts → counts ≡ counts_at definitions m
counts-settled definitions counts n m le e f =
    e ∙ sym (settled definitions n (m - n) (ap (counts_behind definitions) (sym e) ∙ f ∙ e)) ∙ ap (counts_at definitions) (let g : (m - n) + n ≡ m = omega arith in g)

-- the count of a pattern
pub count-pattern : (definitions : List Definition) (counts : List ℕ) (tree : Regex) → counts ≡ counts_at definitions 31
    → min 16385 (count_in (looked_up definitions counts) tree) ≡ min 16385 (count_of_pattern (map definition_view definitions) tree)
unfolding count_of_pattern
count-pattern definitions counts tree e =
    ap (λ (l : List ℕ). min 16385 (count_in (looked_up definitions l) tree)) e ∙ count-by_list definitions 31 tree

-- one rule more
pub count-more : (definitions : List PlainDefinition) (rules : List PlainRule) (rule : PlainRule)
    → count_of_rules definitions (rules ++ rule ∷ []) ≡ count_of_rules definitions rules + (count_of_pattern definitions rule.reading.tree + newline_count rule.reading.line_end)
count-more definitions [] rule = omega arith
count-more definitions (r ∷ rules) rule = let e = count-more definitions rules rule in omega arith
