-- The form of an expression says whether it matches the empty text, and whether its texts have newlines.
use Rattle.std.proofs.Common.{ℕ, zero, suc, ◌≡◌, ◌+◌, ◌^◌, ◌<◌, ◌≤◌, ◌&&◌, ◌||◌, Bool, true, false, List, [], ◌∷◌, ◌++◌, Option, Some, None, All, inl, inr, ◌⊎◌, refl, sym, subst, ap, arith}
use Rattle.std.specs.Prelude.{IsTrue, IfSome, ◌==◌, nat_lt}
use Rattle.std.specs.Option.{SomeIff}
use Rattle.std.specs.FinSet as set
use Rattle.std.specs.Ordering.{nat_cmp}
use Rattle.std.proofs.lemmas.Bool.Decides.{nat_tests}
use Rattle.std.proofs.lemmas.List.Elements.{All-nil, All-append}
use Rattle.lx_ere.specs.Bounds.{has_ordered_bounds, is_ordered}
use Rattle.lx_ere.specs.Matching.{Matches, Repeats, no_names}
use Rattle.lx_ere.specs.Regex.{Regex, nil, one_of, then, or, times, named}
use Rattle.lx_flex.specs.Lengths.{HasNoNewline, SaysEmpty, held, matches_empty}

-- ---- flags

left-of : (a b : Bool) → IsTrue (a && b) → IsTrue a
left-of true b h = refl
left-of false b h = h

right-of : (a b : Bool) → IsTrue (a && b) → IsTrue b
right-of true b h = h
right-of false b h = absurd (cc)

both : (a b : Bool) → IsTrue a → IsTrue b → IsTrue (a && b)
both true b h g = g
both false b h g = absurd (cc)

either : (a b : Bool) → IsTrue (a || b) → IsTrue a ⊎ IsTrue b
either true b h = inl refl
either false b h = inr h

from-left : (a b : Bool) → IsTrue a → IsTrue (a || b)
from-left true b h = refl
from-left false b h = absurd (cc)

from-right : (a b : Bool) → IsTrue b → IsTrue (a || b)
from-right true b h = refl
from-right false b h = h

within : (low : ℕ) (high : Option ℕ) → IsTrue (is_ordered low high) → IfSome high (λ most. low ≤ most)
within low None h = tt
within low (Some most) h = grind (arith, nat_tests, h)

-- ---- the empty text

empty-left : (u v : List ℕ) → [] ≡ u ++ v → u ≡ []
empty-left [] v h = refl
empty-left (b ∷ u) v h = absurd (cc)

empty-right : (u v : List ℕ) → [] ≡ u ++ v → v ≡ []
empty-right [] v h = sym h
empty-right (b ∷ u) v h = absurd (cc)

empty-repeats : (body : Regex) (k : ℕ) → Matches no_names body [] → Repeats (Matches no_names body) k []
empty-repeats body zero h = refl
empty-repeats body (suc k) h = ([], [], h, empty-repeats body k h, refl)

none-repeats : (body : Regex) (high : Option ℕ) → (k : ℕ) × (0 ≤ k) × IfSome high (λ most. k ≤ most) × Repeats (Matches no_names body) k []
none-repeats body None = (0, omega arith, tt, refl)
none-repeats body (Some most) = (0, omega arith, omega arith, refl)

not-zero : (n : ℕ) → (suc n == 0) ≡ false
not-zero n = grind (arith, nat_tests)

found : (tree : Regex) → IsTrue (has_ordered_bounds tree) → IsTrue (matches_empty tree) → Matches no_names tree []
found nil o h = refl
found (one_of s) o h = absurd (cc)
found (then a b) o h =
    let first = found a (left-of (has_ordered_bounds a) (has_ordered_bounds b) o) (left-of (matches_empty a) (matches_empty b) h) in
    let second = found b (right-of (has_ordered_bounds a) (has_ordered_bounds b) o) (right-of (matches_empty a) (matches_empty b) h) in
    ([], [], first, second, refl)
found (or a b) o h = elim (either (matches_empty a) (matches_empty b) h) [
  | inl g ↦ inl (found a (left-of (has_ordered_bounds a) (has_ordered_bounds b) o) g)
  | inr g ↦ inr (found b (right-of (has_ordered_bounds a) (has_ordered_bounds b) o) g)
]
found (times body zero high) o h = none-repeats body high
found (times body (suc low) high) o h =
    let ordered = left-of (is_ordered (suc low) high) (has_ordered_bounds body) o in
    let again : IsTrue (matches_empty body) = subst (λ (b : Bool). IsTrue (b || matches_empty body)) (not-zero low) h in
    let part = found body (right-of (is_ordered (suc low) high) (has_ordered_bounds body) o) again in
    (suc low, omega arith, within (suc low) high ordered, empty-repeats body (suc low) part)
found (named name) o h = absurd (cc)

known : (tree : Regex) → Matches no_names tree [] → IsTrue (matches_empty tree)
known nil h = refl
known (one_of s) (b, inside, is) = absurd (cc)
known (then a b) (u, v, hu, hv, is) =
    both (matches_empty a) (matches_empty b) (known a (subst (λ w. Matches no_names a w) (empty-left u v is) hu)) (known b (subst (λ w. Matches no_names b w) (empty-right u v is) hv))
known (or a b) (inl h) = from-left (matches_empty a) (matches_empty b) (known a h)
known (or a b) (inr h) = from-right (matches_empty a) (matches_empty b) (known b h)
known (times body zero high) h = refl
known (times body (suc low) high) (zero, least, most, h) = absurd (omega (arith, least))
known (times body (suc low) high) (suc k, least, most, (u, v, hu, hv, is)) =
    from-right (suc low == 0) (matches_empty body) (known body (subst (λ w. Matches no_names body w) (empty-left u v is) hu))
known (named name) h = absurd h

pub says_empty : (tree : Regex) → SaysEmpty tree (matches_empty tree)
says_empty tree ordered = (found tree ordered, known tree)

-- ---- newlines

abbrev NoNewline : ℕ → Type 0
NoNewline b = b ≡ 10 → ⊥

single : (b : ℕ) → NoNewline b → All NoNewline (b ∷ [])
single b h zero d l = h
single b h (suc k) d l = absurd (omega (arith, l))

pub nil_newline : HasNoNewline nil
nil_newline w h = subst (λ v. All NoNewline v) (sym h) (All-nil NoNewline)

pub set_newline : (s : set.FinSet nat_cmp) → set.contains s 10 ≡ false → HasNoNewline (one_of s)
set_newline s none w (b, inside, is) =
    let other : NoNewline b = λ same. let have : set.contains s 10 ≡ true = subst (λ (n : ℕ). set.contains s n ≡ true) same inside in absurd (cc) in
    subst (λ v. All NoNewline v) (sym is) (single b other)

pub then_newline : (a b : Regex) → HasNoNewline a → HasNoNewline b → HasNoNewline (then a b)
then_newline a b f g w (u, v, hu, hv, is) = subst (λ t. All NoNewline t) (sym is) (All-append NoNewline u v (f u hu) (g v hv))

pub or_newline : (a b : Regex) → HasNoNewline a → HasNoNewline b → HasNoNewline (or a b)
or_newline a b f g w (inl h) = f w h
or_newline a b f g w (inr h) = g w h

repeats_newline : (body : Regex) → HasNoNewline body → (k : ℕ) (w : List ℕ) → Repeats (Matches no_names body) k w → All NoNewline w
repeats_newline body f zero w h = subst (λ v. All NoNewline v) (sym h) (All-nil NoNewline)
repeats_newline body f (suc k) w (u, v, hu, hv, is) = subst (λ t. All NoNewline t) (sym is) (All-append NoNewline u v (f u hu) (repeats_newline body f k v hv))

pub times_newline : (body : Regex) (low : ℕ) (high : Option ℕ) → HasNoNewline body → HasNoNewline (times body low high)
times_newline body low high f w (k, least, most, h) = repeats_newline body f k w h

-- ---- lengths in 32 bits

pub counted : (o : Option ℕ) (n : ℕ) → SomeIff o (n < 2 ^ 32) n → o ≡ held n
counted None n h = let large : nat_lt n 4294967296 ≡ false = grind (arith, nat_tests, h) in rw large refl
counted (Some m) n (below, same) = let small : nat_lt n 4294967296 ≡ true = grind (arith, nat_tests, below) in rw small (ap Some same)
