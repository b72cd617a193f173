-- A tree whose bounds are small is kept as it is, and bounds that are in order stay so.
use Rattle.std.proofs.Common.{ℕ, ◌≡◌, ◌<◌, ◌≤◌, Bool, true, false, ◌&&◌, nat_le, IsTrue, Some, None, refl, ap, arith}
use Rattle.std.proofs.lemmas.Bool.Decides.{nat_tests}
use Rattle.lx_ere.specs.Bounds.{is_ordered, has_ordered_bounds}
use Rattle.lx_ere.specs.Regex.{Regex, times}
use Rattle.lx_flex_pattern.specs.Intervals.{IsKeptAs, keeps_nil, keeps_set, keeps_name, keeps_then, keeps_or, keeps_times, as_blocks, as_blocks_before, as_some_blocks_before, as_blocks_at_least, block, is_small, has_small_bounds}

both : (x y : Bool) → IsTrue (x && y) → IsTrue x × IsTrue y
both true true h = (h, h)
both true false h = absurd (cc)
both false true h = absurd (cc)
both false false h = absurd (cc)

two : (x y : Bool) → IsTrue x → IsTrue y → IsTrue (x && y)
two true true g h = h
two true false g h = h
two false true g h = g
two false false g h = g

not_small : (n : ℕ) → 255 < n → IsTrue (nat_le n 255) → ⊥
not_small n large h = grind (arith, nat_tests)

pub small_kept : (t r : Regex) → IsTrue (has_small_bounds t) → IsKeptAs t r → t ≡ r
small_kept _ _ h keeps_nil = refl
small_kept _ _ h (keeps_set s) = refl
small_kept _ _ h (keeps_name name) = refl
small_kept _ _ h (keeps_then a b r s m n) =
    let (x, y) = both (has_small_bounds a) (has_small_bounds b) h in
    rw (small_kept a r x m, small_kept b s y n) refl
small_kept _ _ h (keeps_or a b r s m n) =
    let (x, y) = both (has_small_bounds a) (has_small_bounds b) h in
    rw (small_kept a r x m, small_kept b s y n) refl
small_kept _ _ h (keeps_times a r low high m) =
    let (x, y) = both (nat_le low 255 && is_small high) (has_small_bounds a) h in
    ap (λ z. times z low high) (small_kept a r y m)
small_kept _ _ h (as_blocks a r n p m large f) = absurd (not_small n large ((both (nat_le n 255) (nat_le n 255) ((both (nat_le n 255 && nat_le n 255) (has_small_bounds a) h).0)).0))
small_kept _ _ h (as_blocks_before a r n x p c e m large f g) = absurd (not_small x large ((both (nat_le n 255) (nat_le x 255) ((both (nat_le n 255 && nat_le x 255) (has_small_bounds a) h).0)).1))
small_kept _ _ h (as_some_blocks_before a r n x p q c e m large f g o s) = absurd (not_small x large ((both (nat_le n 255) (nat_le x 255) ((both (nat_le n 255 && nat_le x 255) (has_small_bounds a) h).0)).1))
small_kept _ _ h (as_blocks_at_least a r n p c m large f) = absurd (not_small n large ((both (nat_le n 255) true ((both (nat_le n 255 && true) (has_small_bounds a) h).0)).0))

le : (n m : ℕ) → n ≤ m → IsTrue (nat_le n m)
le n m h = grind (arith, nat_tests)

of_le : (n m : ℕ) → IsTrue (nat_le n m) → n ≤ m
of_le n m h = grind (arith, nat_tests)

-- `r{64}` from p to q times
blocks_ordered : (r : Regex) (p q : ℕ) → p ≤ q → IsTrue (has_ordered_bounds r) → IsTrue (has_ordered_bounds (times (block r) p (Some q)))
blocks_ordered r p q o h = two (nat_le p q) (nat_le 64 64 && has_ordered_bounds r) (le p q o) (two (nat_le 64 64) (has_ordered_bounds r) (le 64 64 (omega arith)) h)

pub ordered_kept : (t r : Regex) → IsTrue (has_ordered_bounds t) → IsKeptAs t r → IsTrue (has_ordered_bounds r)
ordered_kept _ _ h keeps_nil = h
ordered_kept _ _ h (keeps_set s) = h
ordered_kept _ _ h (keeps_name name) = h
ordered_kept _ _ h (keeps_then a b r s m n) =
    let (x, y) = both (has_ordered_bounds a) (has_ordered_bounds b) h in two (has_ordered_bounds r) (has_ordered_bounds s) (ordered_kept a r x m) (ordered_kept b s y n)
ordered_kept _ _ h (keeps_or a b r s m n) =
    let (x, y) = both (has_ordered_bounds a) (has_ordered_bounds b) h in two (has_ordered_bounds r) (has_ordered_bounds s) (ordered_kept a r x m) (ordered_kept b s y n)
ordered_kept _ _ h (keeps_times a r low high m) =
    let (x, y) = both (is_ordered low high) (has_ordered_bounds a) h in two (is_ordered low high) (has_ordered_bounds r) x (ordered_kept a r y m)
ordered_kept _ _ h (as_blocks a r n p m large f) =
    let (x, y) = both (nat_le n n) (has_ordered_bounds a) h in blocks_ordered r p p (omega arith) (ordered_kept a r y m)
ordered_kept _ _ h (as_blocks_before a r n x p c e m large f g) =
    let (o, y) = both (nat_le n x) (has_ordered_bounds a) h in
    let body = ordered_kept a r y m in
    let low = of_le n x o in
    two (has_ordered_bounds (times (block r) p (Some p))) (has_ordered_bounds (times r c (Some e))) (blocks_ordered r p p (omega arith) body)
    (two (nat_le c e) (has_ordered_bounds r) (le c e (omega (arith, f, g, low))) body)
ordered_kept _ _ h (as_some_blocks_before a r n x p q c e m large f g o s) =
    let (l, y) = both (nat_le n x) (has_ordered_bounds a) h in
    let body = ordered_kept a r y m in
    two (has_ordered_bounds (times (block r) p (Some q))) (has_ordered_bounds (times r c (Some e))) (blocks_ordered r p q o body)
    (two (nat_le c e) (has_ordered_bounds r) (le c e (omega (arith, s))) body)
ordered_kept _ _ h (as_blocks_at_least a r n p c m large f) =
    let (x, y) = both true (has_ordered_bounds a) h in
    let body = ordered_kept a r y m in
    two (has_ordered_bounds (times (block r) p (Some p))) (has_ordered_bounds (times r c None)) (blocks_ordered r p p (omega arith) body) body
