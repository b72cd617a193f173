-- The test `does_mirror` decides which trees mirror others.
use Rattle.std.proofs.Common.{ℕ, ◌≡◌, Bool, true, nat_eq, ◌&&◌, List, Option, None, Some, refl, sym, ap, ◌∙◌, true≢false}
use Rattle.std.specs.Bool.{Decides}
use Rattle.std.specs.Cmp.{first_so, second_so, unsigned_Decides}
use Rattle.std.specs.Cmp.Lexicographic.{bytes_decides}
use Rattle.std.specs.Option.{option_eq}
use Rattle.std.specs.Ordering.{nat_cmp}
use Rattle.std.specs.FinSet as set
use Rattle.lx_ere.specs.EqualityLaws.{sets_decide}
use Rattle.lx_ere.specs.Regex.{Regex, nil, one_of, then, or, times, named}
use Rattle.lx_flex_pattern.specs.Mirror.{Mirrors, empties, sets, thens, ors, repeats, names, does_mirror}

both : (a b : Bool) → a ≡ true → b ≡ true → (a && b) ≡ true
both a b e f = ap (λ x. x && b) e ∙ f

equal_bounds : (a b : Option ℕ) → option_eq nat_eq a b ≡ true → a ≡ b
equal_bounds None None e = refl
equal_bounds None (Some n) e = absurd (true≢false (sym e))
equal_bounds (Some m) None e = absurd (true≢false (sym e))
equal_bounds (Some m) (Some n) e = ap Some ((unsigned_Decides m n).0 e)

own_bound : (a : Option ℕ) → option_eq nat_eq a a ≡ true
own_bound None = refl
own_bound (Some n) = (unsigned_Decides n n).1 refl

empty_as : (r : Regex) (low : ℕ) (high : Option ℕ) → low ≡ 0 → high ≡ Some 0 → Mirrors nil (times r low high)
empty_as r low high h k = rw h (rw k (empties r))

set_as : (s t : set.FinSet nat_cmp) → s ≡ t → Mirrors (one_of s) (one_of t)
set_as s t h = rw h (sets t)

times_as : (a r : Regex) (low low' : ℕ) (high high' : Option ℕ) → low ≡ low' → high ≡ high' → Mirrors a r → Mirrors (times a low high) (times r low' high')
times_as a r low low' high high' h k m = rw h (rw k (repeats a r low' high' m))

name_as : (name name' : List ℕ) → name ≡ name' → Mirrors (named name) (named name')
name_as name name' h = rw h (names name')

sound : (t r : Regex) → does_mirror t r ≡ true → Mirrors t r
sound nil nil e = absurd (true≢false (sym e))
sound nil (one_of t) e = absurd (true≢false (sym e))
sound nil (then c d) e = absurd (true≢false (sym e))
sound nil (or c d) e = absurd (true≢false (sym e))
sound nil (times c low high) e =
    empty_as c low high ((unsigned_Decides low 0).0 (first_so (nat_eq low 0) (option_eq nat_eq high (Some 0)) e)) (equal_bounds high (Some 0) (second_so (nat_eq low 0) (option_eq nat_eq high (Some 0)) e))
sound nil (named n) e = absurd (true≢false (sym e))
sound (one_of s) nil e = absurd (true≢false (sym e))
sound (one_of s) (one_of t) e = set_as s t ((sets_decide s t).0 e)
sound (one_of s) (then c d) e = absurd (true≢false (sym e))
sound (one_of s) (or c d) e = absurd (true≢false (sym e))
sound (one_of s) (times c l h) e = absurd (true≢false (sym e))
sound (one_of s) (named n) e = absurd (true≢false (sym e))
sound (then a b) nil e = absurd (true≢false (sym e))
sound (then a b) (one_of t) e = absurd (true≢false (sym e))
sound (then a b) (then c d) e = thens a b c d (sound a c (first_so (does_mirror a c) (does_mirror b d) e)) (sound b d (second_so (does_mirror a c) (does_mirror b d) e))
sound (then a b) (or c d) e = absurd (true≢false (sym e))
sound (then a b) (times c l h) e = absurd (true≢false (sym e))
sound (then a b) (named n) e = absurd (true≢false (sym e))
sound (or a b) nil e = absurd (true≢false (sym e))
sound (or a b) (one_of t) e = absurd (true≢false (sym e))
sound (or a b) (then c d) e = absurd (true≢false (sym e))
sound (or a b) (or c d) e = ors a b c d (sound a c (first_so (does_mirror a c) (does_mirror b d) e)) (sound b d (second_so (does_mirror a c) (does_mirror b d) e))
sound (or a b) (times c l h) e = absurd (true≢false (sym e))
sound (or a b) (named n) e = absurd (true≢false (sym e))
sound (times a low high) nil e = absurd (true≢false (sym e))
sound (times a low high) (one_of t) e = absurd (true≢false (sym e))
sound (times a low high) (then c d) e = absurd (true≢false (sym e))
sound (times a low high) (or c d) e = absurd (true≢false (sym e))
sound (times a low high) (times c l h) e =
    let bounds = second_so (does_mirror a c) (nat_eq low l && option_eq nat_eq high h) e in
    times_as a c low l high h ((unsigned_Decides low l).0 (first_so (nat_eq low l) (option_eq nat_eq high h) bounds)) (equal_bounds high h (second_so (nat_eq low l) (option_eq nat_eq high h) bounds)) (sound a c (first_so (does_mirror a c) (nat_eq low l && option_eq nat_eq high h) e))
sound (times a low high) (named n) e = absurd (true≢false (sym e))
sound (named m) nil e = absurd (true≢false (sym e))
sound (named m) (one_of t) e = absurd (true≢false (sym e))
sound (named m) (then c d) e = absurd (true≢false (sym e))
sound (named m) (or c d) e = absurd (true≢false (sym e))
sound (named m) (times c l h) e = absurd (true≢false (sym e))
sound (named m) (named n) e = name_as m n ((bytes_decides m n).0 e)

complete : (t r : Regex) → Mirrors t r → does_mirror t r ≡ true
complete _ _ (empties r) = refl
complete _ _ (sets s) = (sets_decide s s).1 refl
complete _ _ (thens a b r s m n) = both (does_mirror a r) (does_mirror b s) (complete a r m) (complete b s n)
complete _ _ (ors a b r s m n) = both (does_mirror a r) (does_mirror b s) (complete a r m) (complete b s n)
complete _ _ (repeats a r low high m) =
    both (does_mirror a r) (nat_eq low low && option_eq nat_eq high high) (complete a r m) (both (nat_eq low low) (option_eq nat_eq high high) ((unsigned_Decides low low).1 refl) (own_bound high))
complete _ _ (names name) = (bytes_decides name name).1 refl

pub mirrors_decides : (t r : Regex) → Decides (does_mirror t r) (Mirrors t r)
mirrors_decides t r = (sound t r, complete t r)
