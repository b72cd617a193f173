-- A simplified expression is empty, or has no empty part.
use Rattle.std.proofs.Common.{◌≡◌, ℕ, zero, suc, inl, inr, Bool, true, false, List, Option, Some, None, refl}
use Rattle.lx_ere.specs.Regex.{Regex, nil, one_of, then, or, times, named}
use Rattle.lx_rules.specs.Plain.{PlainDefinition}
use Rattle.lx_rules.specs.Nesting.{tree_named}
use Rattle.lx_auto.specs.Unfolded.{Unfolded, empty, leaf, cat, alt, opt, plus, nullable}
use Rattle.lx_auto.specs.Simplified.{opt_unless, opt_of, plus_of, cat_of, alt_of, simplified_counted, simplified_unbounded, simplified_repeated, simplified, simplified_if_defined, simplified_name, simplified_pattern}
use Rattle.lx_auto.specs.Passing.{HasNoEmptyPart, IsSimplified}

no_empty_opt : (b : Bool) (a : Unfolded) → HasNoEmptyPart a → HasNoEmptyPart (opt_unless b a)
no_empty_opt true a s = s
no_empty_opt false a s = s

is_simplified_opt : (a : Unfolded) → IsSimplified a → IsSimplified (opt_of a)
is_simplified_opt empty h = inl refl
is_simplified_opt (leaf b) h = inr tt
is_simplified_opt (cat a b) h = elim h [ inl e ↦ absurd (cc) | inr s ↦ inr (no_empty_opt (nullable (cat a b)) (cat a b) s) ]
is_simplified_opt (alt a b) h = elim h [ inl e ↦ absurd (cc) | inr s ↦ inr (no_empty_opt (nullable (alt a b)) (alt a b) s) ]
is_simplified_opt (opt a) h = h
is_simplified_opt (plus a) h = elim h [ inl e ↦ absurd (cc) | inr s ↦ inr (no_empty_opt (nullable (plus a)) (plus a) s) ]

is_simplified_plus : (a : Unfolded) → IsSimplified a → IsSimplified (plus_of a)
is_simplified_plus empty h = inl refl
is_simplified_plus (leaf b) h = inr tt
is_simplified_plus (cat a b) h = elim h [ inl e ↦ absurd (cc) | inr s ↦ inr s ]
is_simplified_plus (alt a b) h = elim h [ inl e ↦ absurd (cc) | inr s ↦ inr s ]
is_simplified_plus (opt empty) h = elim h [ inl e ↦ absurd (cc) | inr s ↦ inr s ]
is_simplified_plus (opt (leaf b)) h = inr tt
is_simplified_plus (opt (cat a b)) h = elim h [ inl e ↦ absurd (cc) | inr s ↦ inr s ]
is_simplified_plus (opt (alt a b)) h = elim h [ inl e ↦ absurd (cc) | inr s ↦ inr s ]
is_simplified_plus (opt (opt a)) h = elim h [ inl e ↦ absurd (cc) | inr s ↦ inr s ]
is_simplified_plus (opt (plus a)) h = h
is_simplified_plus (plus a) h = h

no_empty_cat : (a b : Unfolded) → HasNoEmptyPart a → IsSimplified b → HasNoEmptyPart (cat_of a b)
no_empty_cat empty b s h = absurd s
no_empty_cat (leaf c) empty s h = tt
no_empty_cat (leaf c) (leaf d) s h = (tt, tt)
no_empty_cat (leaf c) (cat d e) s h = elim h [ inl x ↦ absurd (cc) | inr x ↦ (tt, x) ]
no_empty_cat (leaf c) (alt d e) s h = elim h [ inl x ↦ absurd (cc) | inr x ↦ (tt, x) ]
no_empty_cat (leaf c) (opt d) s h = elim h [ inl x ↦ absurd (cc) | inr x ↦ (tt, x) ]
no_empty_cat (leaf c) (plus d) s h = elim h [ inl x ↦ absurd (cc) | inr x ↦ (tt, x) ]
no_empty_cat (cat c f) empty s h = s
no_empty_cat (cat c f) (leaf d) s h = (s, tt)
no_empty_cat (cat c f) (cat d e) s h = elim h [ inl x ↦ absurd (cc) | inr x ↦ (s, x) ]
no_empty_cat (cat c f) (alt d e) s h = elim h [ inl x ↦ absurd (cc) | inr x ↦ (s, x) ]
no_empty_cat (cat c f) (opt d) s h = elim h [ inl x ↦ absurd (cc) | inr x ↦ (s, x) ]
no_empty_cat (cat c f) (plus d) s h = elim h [ inl x ↦ absurd (cc) | inr x ↦ (s, x) ]
no_empty_cat (alt c f) empty s h = s
no_empty_cat (alt c f) (leaf d) s h = (s, tt)
no_empty_cat (alt c f) (cat d e) s h = elim h [ inl x ↦ absurd (cc) | inr x ↦ (s, x) ]
no_empty_cat (alt c f) (alt d e) s h = elim h [ inl x ↦ absurd (cc) | inr x ↦ (s, x) ]
no_empty_cat (alt c f) (opt d) s h = elim h [ inl x ↦ absurd (cc) | inr x ↦ (s, x) ]
no_empty_cat (alt c f) (plus d) s h = elim h [ inl x ↦ absurd (cc) | inr x ↦ (s, x) ]
no_empty_cat (opt c) empty s h = s
no_empty_cat (opt c) (leaf d) s h = (s, tt)
no_empty_cat (opt c) (cat d e) s h = elim h [ inl x ↦ absurd (cc) | inr x ↦ (s, x) ]
no_empty_cat (opt c) (alt d e) s h = elim h [ inl x ↦ absurd (cc) | inr x ↦ (s, x) ]
no_empty_cat (opt c) (opt d) s h = elim h [ inl x ↦ absurd (cc) | inr x ↦ (s, x) ]
no_empty_cat (opt c) (plus d) s h = elim h [ inl x ↦ absurd (cc) | inr x ↦ (s, x) ]
no_empty_cat (plus c) empty s h = s
no_empty_cat (plus c) (leaf d) s h = (s, tt)
no_empty_cat (plus c) (cat d e) s h = elim h [ inl x ↦ absurd (cc) | inr x ↦ (s, x) ]
no_empty_cat (plus c) (alt d e) s h = elim h [ inl x ↦ absurd (cc) | inr x ↦ (s, x) ]
no_empty_cat (plus c) (opt d) s h = elim h [ inl x ↦ absurd (cc) | inr x ↦ (s, x) ]
no_empty_cat (plus c) (plus d) s h = elim h [ inl x ↦ absurd (cc) | inr x ↦ (s, x) ]

-- a simplified expression that isn't empty has no empty part
has_no_empty : (a : Unfolded) → IsSimplified a → (a ≡ empty → ⊥) → HasNoEmptyPart a
has_no_empty a h ne = elim h [ inl e ↦ absurd (ne e) | inr s ↦ s ]

is_simplified_cat : (a b : Unfolded) → IsSimplified a → IsSimplified b → IsSimplified (cat_of a b)
is_simplified_cat empty b h k = k
is_simplified_cat (leaf c) b h k = inr (no_empty_cat (leaf c) b (has_no_empty (leaf c) h (λ e. absurd (cc))) k)
is_simplified_cat (cat c f) b h k = inr (no_empty_cat (cat c f) b (has_no_empty (cat c f) h (λ e. absurd (cc))) k)
is_simplified_cat (alt c f) b h k = inr (no_empty_cat (alt c f) b (has_no_empty (alt c f) h (λ e. absurd (cc))) k)
is_simplified_cat (opt c) b h k = inr (no_empty_cat (opt c) b (has_no_empty (opt c) h (λ e. absurd (cc))) k)
is_simplified_cat (plus c) b h k = inr (no_empty_cat (plus c) b (has_no_empty (plus c) h (λ e. absurd (cc))) k)

no_empty_simplified_opt : (a : Unfolded) → HasNoEmptyPart a → HasNoEmptyPart (opt_of a)
no_empty_simplified_opt a s = no_empty_opt (nullable a) a s

no_empty_alt : (a b : Unfolded) → HasNoEmptyPart a → IsSimplified b → HasNoEmptyPart (alt_of a b)
no_empty_alt empty b s h = absurd s
no_empty_alt (leaf c) empty s h = no_empty_simplified_opt (leaf c) s
no_empty_alt (leaf c) (leaf d) s h = (tt, tt)
no_empty_alt (leaf c) (cat d e) s h = elim h [ inl x ↦ absurd (cc) | inr x ↦ (tt, x) ]
no_empty_alt (leaf c) (alt d e) s h = elim h [ inl x ↦ absurd (cc) | inr x ↦ (tt, x) ]
no_empty_alt (leaf c) (opt d) s h = elim h [ inl x ↦ absurd (cc) | inr x ↦ (tt, x) ]
no_empty_alt (leaf c) (plus d) s h = elim h [ inl x ↦ absurd (cc) | inr x ↦ (tt, x) ]
no_empty_alt (cat c f) empty s h = no_empty_simplified_opt (cat c f) s
no_empty_alt (cat c f) (leaf d) s h = (s, tt)
no_empty_alt (cat c f) (cat d e) s h = elim h [ inl x ↦ absurd (cc) | inr x ↦ (s, x) ]
no_empty_alt (cat c f) (alt d e) s h = elim h [ inl x ↦ absurd (cc) | inr x ↦ (s, x) ]
no_empty_alt (cat c f) (opt d) s h = elim h [ inl x ↦ absurd (cc) | inr x ↦ (s, x) ]
no_empty_alt (cat c f) (plus d) s h = elim h [ inl x ↦ absurd (cc) | inr x ↦ (s, x) ]
no_empty_alt (alt c f) empty s h = no_empty_simplified_opt (alt c f) s
no_empty_alt (alt c f) (leaf d) s h = (s, tt)
no_empty_alt (alt c f) (cat d e) s h = elim h [ inl x ↦ absurd (cc) | inr x ↦ (s, x) ]
no_empty_alt (alt c f) (alt d e) s h = elim h [ inl x ↦ absurd (cc) | inr x ↦ (s, x) ]
no_empty_alt (alt c f) (opt d) s h = elim h [ inl x ↦ absurd (cc) | inr x ↦ (s, x) ]
no_empty_alt (alt c f) (plus d) s h = elim h [ inl x ↦ absurd (cc) | inr x ↦ (s, x) ]
no_empty_alt (opt c) empty s h = no_empty_simplified_opt (opt c) s
no_empty_alt (opt c) (leaf d) s h = (s, tt)
no_empty_alt (opt c) (cat d e) s h = elim h [ inl x ↦ absurd (cc) | inr x ↦ (s, x) ]
no_empty_alt (opt c) (alt d e) s h = elim h [ inl x ↦ absurd (cc) | inr x ↦ (s, x) ]
no_empty_alt (opt c) (opt d) s h = elim h [ inl x ↦ absurd (cc) | inr x ↦ (s, x) ]
no_empty_alt (opt c) (plus d) s h = elim h [ inl x ↦ absurd (cc) | inr x ↦ (s, x) ]
no_empty_alt (plus c) empty s h = no_empty_simplified_opt (plus c) s
no_empty_alt (plus c) (leaf d) s h = (s, tt)
no_empty_alt (plus c) (cat d e) s h = elim h [ inl x ↦ absurd (cc) | inr x ↦ (s, x) ]
no_empty_alt (plus c) (alt d e) s h = elim h [ inl x ↦ absurd (cc) | inr x ↦ (s, x) ]
no_empty_alt (plus c) (opt d) s h = elim h [ inl x ↦ absurd (cc) | inr x ↦ (s, x) ]
no_empty_alt (plus c) (plus d) s h = elim h [ inl x ↦ absurd (cc) | inr x ↦ (s, x) ]

is_simplified_alt : (a b : Unfolded) → IsSimplified a → IsSimplified b → IsSimplified (alt_of a b)
is_simplified_alt empty b h k = is_simplified_opt b k
is_simplified_alt (leaf c) b h k = inr (no_empty_alt (leaf c) b (has_no_empty (leaf c) h (λ e. absurd (cc))) k)
is_simplified_alt (cat c f) b h k = inr (no_empty_alt (cat c f) b (has_no_empty (cat c f) h (λ e. absurd (cc))) k)
is_simplified_alt (alt c f) b h k = inr (no_empty_alt (alt c f) b (has_no_empty (alt c f) h (λ e. absurd (cc))) k)
is_simplified_alt (opt c) b h k = inr (no_empty_alt (opt c) b (has_no_empty (opt c) h (λ e. absurd (cc))) k)
is_simplified_alt (plus c) b h k = inr (no_empty_alt (plus c) b (has_no_empty (plus c) h (λ e. absurd (cc))) k)

is_simplified_counted : (a : Unfolded) → IsSimplified a → (low high : ℕ) → IsSimplified (simplified_counted a low high)
is_simplified_counted a h low zero = inl refl
is_simplified_counted a h zero (suc high) = is_simplified_opt (cat_of a (simplified_counted a zero high)) (is_simplified_cat a (simplified_counted a zero high) h (is_simplified_counted a h zero high))
is_simplified_counted a h (suc low) (suc high) = is_simplified_cat a (simplified_counted a low high) h (is_simplified_counted a h low high)

is_simplified_unbounded : (a : Unfolded) → IsSimplified a → (n : ℕ) → IsSimplified (simplified_unbounded a n)
is_simplified_unbounded a h zero = is_simplified_plus a h
is_simplified_unbounded a h (suc n) = is_simplified_cat a (simplified_unbounded a n) h (is_simplified_unbounded a h n)

is_simplified_repeated : (a : Unfolded) → IsSimplified a → (low : ℕ) (high : Option ℕ) → IsSimplified (simplified_repeated a low high)
is_simplified_repeated a h low (Some high) = is_simplified_counted a h low high
is_simplified_repeated a h zero None = is_simplified_opt (plus_of a) (is_simplified_plus a h)
is_simplified_repeated a h (suc low) None = is_simplified_unbounded a h low

is_simplified_all : (names : List ℕ → Unfolded) → ((name : List ℕ) → IsSimplified (names name)) → (tree : Regex) → IsSimplified (simplified names tree)
is_simplified_all names h nil = inl refl
is_simplified_all names h (one_of s) = inr tt
is_simplified_all names h (then a b) = is_simplified_cat (simplified names a) (simplified names b) (is_simplified_all names h a) (is_simplified_all names h b)
is_simplified_all names h (or a b) = is_simplified_alt (simplified names a) (simplified names b) (is_simplified_all names h a) (is_simplified_all names h b)
is_simplified_all names h (times body low high) = is_simplified_repeated (simplified names body) (is_simplified_all names h body) low high
is_simplified_all names h (named name) = h name

is_simplified_if_defined : (names : List ℕ → Unfolded) → ((name : List ℕ) → IsSimplified (names name)) → (tree : Option Regex) → IsSimplified (simplified_if_defined names tree)
is_simplified_if_defined names h None = inl refl
is_simplified_if_defined names h (Some tree) = is_simplified_all names h tree

is_simplified_name : (definitions : List PlainDefinition) (n : ℕ) (name : List ℕ) → IsSimplified (simplified_name definitions n name)
is_simplified_name definitions zero name = inl refl
is_simplified_name definitions (suc n) name = is_simplified_if_defined (simplified_name definitions n) (is_simplified_name definitions n) (tree_named definitions name)

pub is_simplified_pattern : (definitions : List PlainDefinition) (tree : Regex) → IsSimplified (simplified_pattern definitions tree)
unfolding simplified_pattern
is_simplified_pattern definitions tree = is_simplified_all (simplified_name definitions 32) (is_simplified_name definitions 32) tree
