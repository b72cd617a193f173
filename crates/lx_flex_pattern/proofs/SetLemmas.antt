-- Sets of bytes that are put together.
use Rattle.std.proofs.Common.{◌≡◌, ℕ, ◌+◌, ◌<◌, Bool, true, false, ◌&&◌, ◌||◌, not, List, [], ◌∷◌, ◌++◌, length, take, map, get_or, refl, sym, ap, ◌∙◌}
use Rattle.std.specs.FinSet as set
use Rattle.std.specs.Ordering.{nat_cmp}
use Rattle.lx_ere.specs.Bytes.{bytes_where, in_ranges, is_between}
use Rattle.lx_ere.specs.ByteLaws.{contains_where, same_where}
use Rattle.std.proofs.lemmas.List.{map-append, take_more}
use Rattle.lx_flex_pattern.specs.declared.brackets.BracketMember.{BracketMember}
use Rattle.lx_flex_pattern.specs.Members.{member_of}
use Rattle.lx_flex_pattern.specs.Sets.{is_letter, other_case, range_has, Member, member_has, some_has, difference}

or_swap : (x y t : Bool) → (x || (y || t)) ≡ ((y || x) || t)
or_swap true true t = refl
or_swap true false t = refl
or_swap false true t = refl
or_swap false false t = refl

or_none : (x : Bool) → (x || false) ≡ x
or_none true = refl
or_none false = refl

-- a range and that of the other case
pub both_cases : (fold : Bool) (low high : ℕ) (test : ℕ → Bool) → fold ≡ true → is_letter low ≡ true → is_letter high ≡ true →
    bytes_where (λ b. is_between (other_case low) (other_case high) b || (is_between low high b || test b)) ≡ bytes_where (λ b. range_has fold low high b || test b)
both_cases fold low high test e f g = same_where _ _ (λ b _. rw (e, f, g) (or_swap (is_between (other_case low) (other_case high) b) (is_between low high b) (test b)))

-- a set that begins empty
pub from_nothing : (test : ℕ → Bool) → bytes_where (λ b. test b || false) ≡ bytes_where test
from_nothing test = same_where _ _ (λ b _. or_none (test b))

-- the bytes outside ranges, and those of a set
pub with_outside : (s outside joined : set.FinSet nat_cmp) (ranges : List (ℕ × ℕ)) (test : ℕ → Bool) → s ≡ bytes_where test → outside ≡ bytes_where (λ b. not (in_ranges ranges b || false)) →
    joined ≡ bytes_where (λ b. set.contains outside b || set.contains s b) → joined ≡ bytes_where (λ b. not (in_ranges ranges b) || test b)
with_outside s outside joined ranges test e f g = g ∙ same_where _ _ (λ b lt. same b lt)
  where
    same : (b : ℕ) → b < 256 → (set.contains outside b || set.contains s b) ≡ (not (in_ranges ranges b) || test b)
    same b lt =
        let own : set.contains s b ≡ test b = ap (λ t. set.contains t b) e ∙ contains_where test b lt in
        let other : set.contains outside b ≡ not (in_ranges ranges b) =
        ap (λ t. set.contains t b) f ∙ (contains_where (λ q. not (in_ranges ranges q || false)) b lt ∙ ap not (or_none (in_ranges ranges b))) in
        rw (own, other) refl

-- the complement of the bytes of either of a complement and a set
pub difference_is : (s outside joined others t : set.FinSet nat_cmp) → outside ≡ bytes_where (λ b. not (set.contains s b)) → joined ≡ bytes_where (λ b. set.contains t b || set.contains outside b) →
    others ≡ bytes_where (λ b. not (set.contains joined b)) → others ≡ difference s t
difference_is s outside joined others t e f g = g ∙ same_where _ _ (λ b lt. same b lt)
  where
    morgan : (x y : Bool) → not (y || not x) ≡ (x && not y)
    morgan true true = refl
    morgan true false = refl
    morgan false true = refl
    morgan false false = refl

    same : (b : ℕ) → b < 256 → not (set.contains joined b) ≡ (set.contains s b && not (set.contains t b))
    same b lt =
        let out : set.contains outside b ≡ not (set.contains s b) = ap (λ u. set.contains u b) e ∙ contains_where (λ q. not (set.contains s q)) b lt in
        let all : set.contains joined b ≡ (set.contains t b || set.contains outside b) = ap (λ u. set.contains u b) f ∙ contains_where (λ q. set.contains t q || set.contains outside q) b lt in
        rw (all, out) (morgan (set.contains s b) (set.contains t b))

some_more : (fold : Bool) (members : List Member) (m : Member) (b : ℕ) → some_has fold (members ++ m ∷ []) b ≡ (member_has fold m b || some_has fold members b)
some_more fold [] m b = refl
some_more fold (x ∷ members) m b = ap (λ y. member_has fold x b || y) (some_more fold members m b) ∙ turn (member_has fold x b) (member_has fold m b) (some_has fold members b)
  where
    turn : (x y z : Bool) → (x || (y || z)) ≡ (y || (x || z))
    turn true true z = refl
    turn true false z = refl
    turn false true z = refl
    turn false false z = refl

-- one member more
pub one_more : (fold : Bool) (members : List Member) (m : Member) → bytes_where (λ b. member_has fold m b || some_has fold members b) ≡ bytes_where (some_has fold (members ++ m ∷ []))
one_more fold members m = same_where _ _ (λ b _. sym (some_more fold members m b))

pub members_more : (fold : Bool) (members : List BracketMember) (i : ℕ) (d : BracketMember) → i < length members →
    bytes_where (λ b. member_has fold (member_of (get_or members i d)) b || some_has fold (map member_of (take i members)) b) ≡ bytes_where (some_has fold (map member_of (take (i + 1) members)))
members_more fold members i d h =
    one_more fold (map member_of (take i members)) (member_of (get_or members i d))
    ∙ ap (λ ms. bytes_where (some_has fold ms)) (sym (ap (map member_of) (take_more members i d h) ∙ map-append member_of (take i members) (get_or members i d ∷ [])))
