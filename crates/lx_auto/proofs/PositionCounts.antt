-- Removing parts without positions, and writing repeats out, keeps the counted number of positions.
use Rattle.std.proofs.Common.{◌≡◌, ℕ, zero, suc, ◌+◌, ◌*◌, max, Bool, true, false, List, Option, Some, None, refl, ◌∙◌, ap, arith}
use Rattle.lx_ere.specs.Regex.{Regex, nil, one_of, then, or, times, named}
use Rattle.lx_rules.specs.Plain.{PlainDefinition}
use Rattle.lx_rules.specs.Nesting.{tree_named}
use Rattle.lx_auto.specs.Unfolded.{Unfolded, empty, leaf, cat, alt, opt, plus, position_count, nullable}
use Rattle.lx_auto.specs.WrittenOut.{counted, unbounded, repeated, written_out, written_if_defined, name_written_out, pattern_written_out}
use Rattle.lx_auto.specs.Counts.{copies_of, count_in, count_if_defined, count_of_name, count_of_pattern}
use Rattle.lx_auto.specs.Simplified.{opt_unless, opt_of, plus_of, cat_of, alt_of, simplified_counted, simplified_unbounded, simplified_repeated, simplified, simplified_if_defined, simplified_name, simplified_pattern}

pub suc_times : (n c : ℕ) → suc n * c ≡ c + n * c
suc_times n c = grind arith

opt_unless-count : (b : Bool) (a : Unfolded) → position_count (opt_unless b a) ≡ position_count a
opt_unless-count true a = refl
opt_unless-count false a = refl

pub opt_of-count : (a : Unfolded) → position_count (opt_of a) ≡ position_count a
opt_of-count a = opt_unless-count (nullable a) a

pub plus_of-count : (a : Unfolded) → position_count (plus_of a) ≡ position_count a
plus_of-count empty = refl
plus_of-count (leaf s) = refl
plus_of-count (cat a b) = refl
plus_of-count (alt a b) = refl
plus_of-count (opt (plus a)) = refl
plus_of-count (opt a) = refl
plus_of-count (plus a) = refl

pub cat_of-count : (a b : Unfolded) → position_count (cat_of a b) ≡ position_count a + position_count b
cat_of-count empty b = omega arith
cat_of-count a empty = omega arith
cat_of-count a b = refl

pub alt_of-count : (a b : Unfolded) → position_count (alt_of a b) ≡ position_count a + position_count b
alt_of-count empty b = let e = opt_of-count b in omega arith
alt_of-count a empty = let e = opt_of-count a in omega arith
alt_of-count a b = refl

counted-count : (r : Unfolded) (low high : ℕ) → position_count (counted r low high) ≡ high * position_count r
counted-count r low zero = omega arith
counted-count r zero (suc high) = let e = counted-count r zero high in let f = suc_times high (position_count r) in omega arith
counted-count r (suc low) (suc high) = let e = counted-count r low high in let f = suc_times high (position_count r) in omega arith

unbounded-count : (r : Unfolded) (n : ℕ) → position_count (unbounded r n) ≡ suc n * position_count r
unbounded-count r zero = let f = suc_times 0 (position_count r) in omega arith
unbounded-count r (suc n) = let e = unbounded-count r n in let f = suc_times (suc n) (position_count r) in omega arith

one_copy : (low : ℕ) → suc low ≡ max 1 (suc low)
one_copy low = omega arith

repeated-count : (r : Unfolded) (low : ℕ) (high : Option ℕ) → position_count (repeated r low high) ≡ copies_of low high * position_count r
repeated-count r low (Some high) = counted-count r low high
repeated-count r zero None = let f = suc_times 0 (position_count r) in omega arith
repeated-count r (suc low) None = unbounded-count r low ∙ ap (λ (n : ℕ). n * position_count r) (one_copy low)

simplified_counted-count : (r : Unfolded) (low high : ℕ) → position_count (simplified_counted r low high) ≡ high * position_count r
simplified_counted-count r low zero = omega arith
simplified_counted-count r zero (suc high) =
    let e = simplified_counted-count r zero high in
    let f = suc_times high (position_count r) in
    let g = opt_of-count (cat_of r (simplified_counted r zero high)) in
    let h = cat_of-count r (simplified_counted r zero high) in
    omega arith
simplified_counted-count r (suc low) (suc high) =
    let e = simplified_counted-count r low high in
    let f = suc_times high (position_count r) in
    let h = cat_of-count r (simplified_counted r low high) in
    omega arith

simplified_unbounded-count : (r : Unfolded) (n : ℕ) → position_count (simplified_unbounded r n) ≡ suc n * position_count r
simplified_unbounded-count r zero = let e = plus_of-count r in let f = suc_times 0 (position_count r) in omega arith
simplified_unbounded-count r (suc n) =
    let e = simplified_unbounded-count r n in
    let f = suc_times (suc n) (position_count r) in
    let h = cat_of-count r (simplified_unbounded r n) in
    omega arith

simplified_repeated-count : (r : Unfolded) (low : ℕ) (high : Option ℕ) → position_count (simplified_repeated r low high) ≡ copies_of low high * position_count r
simplified_repeated-count r low (Some high) = simplified_counted-count r low high
simplified_repeated-count r zero None = let e = opt_of-count (plus_of r) in let g = plus_of-count r in let f = suc_times 0 (position_count r) in omega arith
simplified_repeated-count r (suc low) None = simplified_unbounded-count r low ∙ ap (λ (n : ℕ). n * position_count r) (one_copy low)

-- each expression, if the expressions of its names have the counted numbers of positions
pub written-count : (names : List ℕ → Unfolded) (counts : List ℕ → ℕ) → ((name : List ℕ) → position_count (names name) ≡ counts name) → (tree : Regex)
    → position_count (written_out names tree) ≡ count_in counts tree
written-count names counts f nil = refl
written-count names counts f (one_of s) = refl
written-count names counts f (then a b) = let x = written-count names counts f a in let y = written-count names counts f b in omega arith
written-count names counts f (or a b) = let x = written-count names counts f a in let y = written-count names counts f b in omega arith
written-count names counts f (times body low high) =
    repeated-count (written_out names body) low high ∙ ap (λ (n : ℕ). copies_of low high * n) (written-count names counts f body)
written-count names counts f (named name) = f name

pub simplified-count : (names : List ℕ → Unfolded) (counts : List ℕ → ℕ) → ((name : List ℕ) → position_count (names name) ≡ counts name) → (tree : Regex)
    → position_count (simplified names tree) ≡ count_in counts tree
simplified-count names counts f nil = refl
simplified-count names counts f (one_of s) = refl
simplified-count names counts f (then a b) =
    let x = simplified-count names counts f a in
    let y = simplified-count names counts f b in
    let e = cat_of-count (simplified names a) (simplified names b) in
    omega arith
simplified-count names counts f (or a b) =
    let x = simplified-count names counts f a in
    let y = simplified-count names counts f b in
    let e = alt_of-count (simplified names a) (simplified names b) in
    omega arith
simplified-count names counts f (times body low high) =
    simplified_repeated-count (simplified names body) low high ∙ ap (λ (n : ℕ). copies_of low high * n) (simplified-count names counts f body)
simplified-count names counts f (named name) = f name

written_if-count : (names : List ℕ → Unfolded) (counts : List ℕ → ℕ) → ((name : List ℕ) → position_count (names name) ≡ counts name) → (o : Option Regex)
    → position_count (written_if_defined names o) ≡ count_if_defined counts o
written_if-count names counts f None = refl
written_if-count names counts f (Some tree) = written-count names counts f tree

simplified_if-count : (names : List ℕ → Unfolded) (counts : List ℕ → ℕ) → ((name : List ℕ) → position_count (names name) ≡ counts name) → (o : Option Regex)
    → position_count (simplified_if_defined names o) ≡ count_if_defined counts o
simplified_if-count names counts f None = refl
simplified_if-count names counts f (Some tree) = simplified-count names counts f tree

written_name-count : (definitions : List PlainDefinition) (n : ℕ) (name : List ℕ) → position_count (name_written_out definitions n name) ≡ count_of_name definitions n name
written_name-count definitions zero name = refl
written_name-count definitions (suc n) name = written_if-count (name_written_out definitions n) (count_of_name definitions n) (written_name-count definitions n) (tree_named definitions name)

pub simplified_name-count : (definitions : List PlainDefinition) (n : ℕ) (name : List ℕ) → position_count (simplified_name definitions n name) ≡ count_of_name definitions n name
simplified_name-count definitions zero name = refl
simplified_name-count definitions (suc n) name = simplified_if-count (simplified_name definitions n) (count_of_name definitions n) (simplified_name-count definitions n) (tree_named definitions name)

pub pattern_written_out-count : (definitions : List PlainDefinition) (tree : Regex) → position_count (pattern_written_out definitions tree) ≡ count_of_pattern definitions tree
unfolding pattern_written_out count_of_pattern
pattern_written_out-count definitions tree = written-count (name_written_out definitions 32) (count_of_name definitions 32) (written_name-count definitions 32) tree

pub simplified_pattern-count : (definitions : List PlainDefinition) (tree : Regex) → position_count (simplified_pattern definitions tree) ≡ count_of_pattern definitions tree
unfolding simplified_pattern count_of_pattern
simplified_pattern-count definitions tree = simplified-count (simplified_name definitions 32) (count_of_name definitions 32) (simplified_name-count definitions 32) tree
