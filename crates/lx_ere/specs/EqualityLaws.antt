-- The tests of `Equality` are true if and only if the values are equal, so they are equivalences.
use Rattle.std.specs.Prelude.{◌≡◌, ℕ, Bool, true, nat_eq, ◌&&◌, Option, Some, None}
use Rattle.std.proofs.Common.{refl, sym, ap, ◌∙◌, subst, true≢false}
use Rattle.std.specs.Bool.{Decides, beq}
use Rattle.std.specs.Option.{option_eq}
use Rattle.std.specs.Cmp.{IsEquivalence, decided, both_ways, first_so, second_so, nat_cmp_total, unsigned_Decides, booleans_Decides}
use Rattle.std.specs.Cmp.Lexicographic.{bytes_decides}
use Rattle.std.specs.Ordering.{nat_cmp}
use Rattle.std.specs.FinSet as set
use Rattle.lx_ere.specs.Regex.{Regex, nil, one_of, then, or, times, named, Reading}
use Rattle.lx_ere.specs.Equality.{same_sets, same_trees, same_readings}

both : (a b : Bool) → a ≡ true → b ≡ true → (a && b) ≡ true
both a b e f = ap (λ x. x && b) e ∙ f

-- a test that is true for each value and itself, and only for equal values
decides : {K : Type 0} (test : K → K → Bool) → ((x y : K) → test x y ≡ true → x ≡ y) → ((x : K) → test x x ≡ true) → (x y : K) → Decides (test x y) (x ≡ y)
decides test sound itself x y = (sound x y, λ e. subst (λ z. test x z ≡ true) e (itself x))

equal_sets : (s t : set.FinSet nat_cmp) → same_sets s t ≡ true → s ≡ t
equal_sets s t e =
    let below = set.is_subset-contains nat_cmp_total s t (first_so (set.is_subset s t) (set.is_subset t s) e) in
    let above = set.is_subset-contains nat_cmp_total t s (second_so (set.is_subset s t) (set.is_subset t s) e) in
    set.same_set nat_cmp_total set.nat_cmp-IsAntisymmetric s t (λ q. both_ways (set.contains s q) (set.contains t q) (below q) (above q))

own_set : (s : set.FinSet nat_cmp) → same_sets s s ≡ true
own_set s = let within = set.contains-is_subset nat_cmp_total s s (λ q h. h) in both (set.is_subset s s) (set.is_subset s s) within within

pub sets_decide : (s t : set.FinSet nat_cmp) → Decides (same_sets s t) (s ≡ t)
sets_decide = decides same_sets equal_sets own_set

equal_bounds : (a b : Option ℕ) → option_eq nat_eq a b ≡ true → a ≡ b
equal_bounds None None e = refl
equal_bounds None (Some n) e = absurd (true≢false (sym e))
equal_bounds (Some m) None e = absurd (true≢false (sym e))
equal_bounds (Some m) (Some n) e = ap Some ((unsigned_Decides m n).0 e)

own_bound : (a : Option ℕ) → option_eq nat_eq a a ≡ true
own_bound None = refl
own_bound (Some n) = (unsigned_Decides n n).1 refl

equal_trees : (a b : Regex) → same_trees a b ≡ true → a ≡ b
equal_trees nil nil e = refl
equal_trees nil (one_of t) e = absurd (true≢false (sym e))
equal_trees nil (then c d) e = absurd (true≢false (sym e))
equal_trees nil (or c d) e = absurd (true≢false (sym e))
equal_trees nil (times c l h) e = absurd (true≢false (sym e))
equal_trees nil (named n) e = absurd (true≢false (sym e))
equal_trees (one_of s) nil e = absurd (true≢false (sym e))
equal_trees (one_of s) (one_of t) e = ap one_of (equal_sets s t e)
equal_trees (one_of s) (then c d) e = absurd (true≢false (sym e))
equal_trees (one_of s) (or c d) e = absurd (true≢false (sym e))
equal_trees (one_of s) (times c l h) e = absurd (true≢false (sym e))
equal_trees (one_of s) (named n) e = absurd (true≢false (sym e))
equal_trees (then a b) nil e = absurd (true≢false (sym e))
equal_trees (then a b) (one_of t) e = absurd (true≢false (sym e))
equal_trees (then a b) (then c d) e = λ i. then (equal_trees a c (first_so (same_trees a c) (same_trees b d) e) i) (equal_trees b d (second_so (same_trees a c) (same_trees b d) e) i)
equal_trees (then a b) (or c d) e = absurd (true≢false (sym e))
equal_trees (then a b) (times c l h) e = absurd (true≢false (sym e))
equal_trees (then a b) (named n) e = absurd (true≢false (sym e))
equal_trees (or a b) nil e = absurd (true≢false (sym e))
equal_trees (or a b) (one_of t) e = absurd (true≢false (sym e))
equal_trees (or a b) (then c d) e = absurd (true≢false (sym e))
equal_trees (or a b) (or c d) e = λ i. or (equal_trees a c (first_so (same_trees a c) (same_trees b d) e) i) (equal_trees b d (second_so (same_trees a c) (same_trees b d) e) i)
equal_trees (or a b) (times c l h) e = absurd (true≢false (sym e))
equal_trees (or a b) (named n) e = absurd (true≢false (sym e))
equal_trees (times a low high) nil e = absurd (true≢false (sym e))
equal_trees (times a low high) (one_of t) e = absurd (true≢false (sym e))
equal_trees (times a low high) (then c d) e = absurd (true≢false (sym e))
equal_trees (times a low high) (or c d) e = absurd (true≢false (sym e))
equal_trees (times a low high) (times c l h) e =
    let bounds = second_so (same_trees a c) (nat_eq low l && option_eq nat_eq high h) e in
    λ i. times (equal_trees a c (first_so (same_trees a c) (nat_eq low l && option_eq nat_eq high h) e) i) ((unsigned_Decides low l).0 (first_so (nat_eq low l) (option_eq nat_eq high h) bounds) i) (equal_bounds high h (second_so (nat_eq low l) (option_eq nat_eq high h) bounds) i)
equal_trees (times a low high) (named n) e = absurd (true≢false (sym e))
equal_trees (named m) nil e = absurd (true≢false (sym e))
equal_trees (named m) (one_of t) e = absurd (true≢false (sym e))
equal_trees (named m) (then c d) e = absurd (true≢false (sym e))
equal_trees (named m) (or c d) e = absurd (true≢false (sym e))
equal_trees (named m) (times c l h) e = absurd (true≢false (sym e))
equal_trees (named m) (named n) e = ap named ((bytes_decides m n).0 e)

own_tree : (a : Regex) → same_trees a a ≡ true
own_tree nil = refl
own_tree (one_of s) = own_set s
own_tree (then a b) = both (same_trees a a) (same_trees b b) (own_tree a) (own_tree b)
own_tree (or a b) = both (same_trees a a) (same_trees b b) (own_tree a) (own_tree b)
own_tree (times body low high) = both (same_trees body body) (nat_eq low low && option_eq nat_eq high high) (own_tree body) (both (nat_eq low low) (option_eq nat_eq high high) ((unsigned_Decides low low).1 refl) (own_bound high))
own_tree (named name) = (bytes_decides name name).1 refl

pub trees_decide : (a b : Regex) → Decides (same_trees a b) (a ≡ b)
trees_decide = decides same_trees equal_trees own_tree

equal_readings : (r s : Reading) → same_readings r s ≡ true → r ≡ s
equal_readings r s e =
    let rest = second_so (beq r.line_begin s.line_begin) (beq r.line_end s.line_end && same_trees r.tree s.tree) e in
    let begins = (booleans_Decides r.line_begin s.line_begin).0 (first_so (beq r.line_begin s.line_begin) (beq r.line_end s.line_end && same_trees r.tree s.tree) e) in
    let ends = (booleans_Decides r.line_end s.line_end).0 (first_so (beq r.line_end s.line_end) (same_trees r.tree s.tree) rest) in
    let trees = equal_trees r.tree s.tree (second_so (beq r.line_end s.line_end) (same_trees r.tree s.tree) rest) in
    λ i. record { line_begin = begins i; line_end = ends i; tree = trees i }

own_reading : (r : Reading) → same_readings r r ≡ true
own_reading r = both (beq r.line_begin r.line_begin) (beq r.line_end r.line_end && same_trees r.tree r.tree) ((booleans_Decides r.line_begin r.line_begin).1 refl) (both (beq r.line_end r.line_end) (same_trees r.tree r.tree) ((booleans_Decides r.line_end r.line_end).1 refl) (own_tree r.tree))

pub readings_decide : (r s : Reading) → Decides (same_readings r s) (r ≡ s)
readings_decide = decides same_readings equal_readings own_reading

pub sets_equivalence : IsEquivalence same_sets
sets_equivalence = decided same_sets sets_decide

pub trees_equivalence : IsEquivalence same_trees
trees_equivalence = decided same_trees trees_decide

pub readings_equivalence : IsEquivalence same_readings
readings_equivalence = decided same_readings readings_decide
