-- Removing parts without positions keeps the words.
use Rattle.std.proofs.Common.{◌≡◌, ◌∙◌, ◌↔◌, ℕ, zero, suc, ◌+◌, ◌⊎◌, inl, inr, Bool, true, false, ◌&&◌, ◌||◌, List, [], ◌++◌, Option, Some, None, refl, ap, ap₂, sym, subst, arith, append_assoc}
use Rattle.std.specs.FinSet as set
use Rattle.std.specs.Ordering.{nat_cmp}
use Rattle.std.proofs.lemmas.Bool.{false≢true}
use Rattle.std.proofs.lemmas.List.{append-nil}
use Rattle.lx_ere.specs.Regex.{Regex, nil, one_of, then, or, times, named}
use Rattle.lx_rules.specs.Nesting.{tree_named}
use Rattle.lx_rules.specs.Plain.{PlainDefinition}
use Rattle.lx_auto.specs.Unfolded.{Unfolded, empty, leaf, cat, alt, opt, plus, position_count, nullable, Joined, WordOf}
use Rattle.lx_auto.specs.WrittenOut.{counted, unbounded, repeated, written_out, written_if_defined, name_written_out, pattern_written_out}
use Rattle.lx_auto.specs.Simplified.{opt_unless, opt_of, plus_of, cat_of, alt_of, simplified_counted, simplified_unbounded, simplified_repeated, simplified, simplified_if_defined, simplified_name, simplified_pattern}

-- equally many positions, and the same words
pub record HaveSameWords (L : set.FinSet nat_cmp → ℕ → List ℕ → Type 0) (a b : Unfolded) : Type 0 where
  pub count : position_count a ≡ position_count b
  pub into : (k : ℕ) (w : List ℕ) → WordOf L a k w → WordOf L b k w
  pub back : (k : ℕ) (w : List ℕ) → WordOf L b k w → WordOf L a k w

same_words-refl : (L : set.FinSet nat_cmp → ℕ → List ℕ → Type 0) (a : Unfolded) → HaveSameWords L a a
same_words-refl L a = record { count = refl; into = λ k w h. h; back = λ k w h. h }

same_words-trans : (L : set.FinSet nat_cmp → ℕ → List ℕ → Type 0) (a b c : Unfolded) → HaveSameWords L a b → HaveSameWords L b c → HaveSameWords L a c
same_words-trans L a b c x y = record { count = x.count ∙ y.count; into = λ k w h. y.into k w (x.into k w h); back = λ k w h. x.back k w (y.back k w h) }

moved : (L : set.FinSet nat_cmp → ℕ → List ℕ → Type 0) (a : Unfolded) (k m n : ℕ) (w : List ℕ) → m ≡ n → WordOf L a (k + m) w → WordOf L a (k + n) w
moved L a k m n w e h = subst (λ (j : ℕ). WordOf L a (k + j) w) e h

from_zero : (L : set.FinSet nat_cmp → ℕ → List ℕ → Type 0) (a : Unfolded) (k : ℕ) (w : List ℕ) → WordOf L a (k + 0) w → WordOf L a k w
from_zero L a k w h = subst (λ (j : ℕ). WordOf L a j w) (let e : k + 0 ≡ k = omega arith in e) h

to_zero : (L : set.FinSet nat_cmp → ℕ → List ℕ → Type 0) (a : Unfolded) (k : ℕ) (w : List ℕ) → WordOf L a k w → WordOf L a (k + 0) w
to_zero L a k w h = subst (λ (j : ℕ). WordOf L a j w) (let e : k ≡ k + 0 = omega arith in e) h

same_word : (L : set.FinSet nat_cmp → ℕ → List ℕ → Type 0) (a : Unfolded) (k : ℕ) (v w : List ℕ) → v ≡ w → WordOf L a k v → WordOf L a k w
same_word L a k v w e h = subst (WordOf L a k) e h

-- lists of words, joined
joined_map : (P Q : List ℕ → Type 0) → ((w : List ℕ) → P w → Q w) → (n : ℕ) (w : List ℕ) → Joined P n w → Joined Q n w
joined_map P Q f zero w h = h
joined_map P Q f (suc n) w h = (h.0, h.1, h.2, f h.0 h.3, joined_map P Q f n h.1 h.4)

joined_one : (P : List ℕ → Type 0) (w : List ℕ) → P w → Joined P 1 w
joined_one P w h = (w, [], sym (append-nil w), h, refl)

joined_same : (P : List ℕ → Type 0) (n : ℕ) (v w : List ℕ) → v ≡ w → Joined P n v → Joined P n w
joined_same P n v w e h = subst (Joined P n) e h

joined_both : (P : List ℕ → Type 0) (m n : ℕ) (u v : List ℕ) → Joined P m u → Joined P n v → (l : ℕ) × Joined P l (u ++ v)
joined_both P zero n u v x y = (n, joined_same P n v (u ++ v) (ap (λ (l : List ℕ). l ++ v) (sym x)) y)
joined_both P (suc m) n u v x y =
    let t = joined_both P m n x.1 v x.4 y in
    (suc t.0, (x.0, x.1 ++ v, ap (λ (l : List ℕ). l ++ v) x.2 ∙ append_assoc x.0 x.1 v, x.3, t.1))

-- one or more words after some
joined_more : (P : List ℕ → Type 0) (m n : ℕ) (u v : List ℕ) → Joined P (suc m) u → Joined P n v → (l : ℕ) × Joined P (suc l) (u ++ v)
joined_more P m n u v x y =
    let t = joined_both P m n x.1 v x.4 y in
    (t.0, (x.0, x.1 ++ v, ap (λ (l : List ℕ). l ++ v) x.2 ∙ append_assoc x.0 x.1 v, x.3, t.1))

joined_empty : (n : ℕ) (w : List ℕ) → Joined (λ (v : List ℕ). v ≡ []) n w → w ≡ []
joined_empty zero w h = h
joined_empty (suc n) w h = h.2 ∙ ap₂ (λ (u v : List ℕ). u ++ v) h.3 (joined_empty n h.1 h.4)

-- words of one or more, joined
Some_of : (List ℕ → Type 0) → List ℕ → Type 0
Some_of P w = (n : ℕ) × Joined P (suc n) w

joined_some : (P : List ℕ → Type 0) (n : ℕ) (w : List ℕ) → Joined (λ v. (m : ℕ) × Joined P (suc m) v) n w → (l : ℕ) × Joined P l w
joined_some P zero w h = (0, h)
joined_some P (suc n) w h =
    let rest = joined_some P n h.1 h.4 in
    let t = joined_both P (suc h.3.0) rest.0 h.0 h.1 h.3.1 rest.1 in
    (t.0, joined_same P t.0 (h.0 ++ h.1) w (sym h.2) t.1)

-- words of any number, joined
joined_any : (P : List ℕ → Type 0) (n : ℕ) (w : List ℕ) → Joined (λ v. (v ≡ []) ⊎ ((m : ℕ) × Joined P (suc m) v)) n w → (l : ℕ) × Joined P l w
joined_any P zero w h = (0, h)
joined_any P (suc n) w h =
    let rest = joined_any P n h.1 h.4 in
    elim h.3 [
      | inl e ↦ (rest.0, joined_same P rest.0 h.1 w (sym (h.2 ∙ ap (λ (l : List ℕ). l ++ h.1) e)) rest.1)
      | inr s ↦ let t = joined_both P (suc s.0) rest.0 h.0 h.1 s.1 rest.1 in (t.0, joined_same P t.0 (h.0 ++ h.1) w (sym h.2) t.1)
    ]

any_or_none : (P : List ℕ → Type 0) (l : ℕ) (w : List ℕ) → Joined P l w → (w ≡ []) ⊎ ((m : ℕ) × Joined P (suc m) w)
any_or_none P zero w h = inl h
any_or_none P (suc l) w h = inr (l, h)

-- a nullable expression matches the empty word
pub nullable-word : (L : set.FinSet nat_cmp → ℕ → List ℕ → Type 0) (e : Unfolded) (k : ℕ) → nullable e ≡ true → WordOf L e k []
nullable-word L empty k h = refl
nullable-word L (leaf s) k h = absurd (false≢true h)
nullable-word L (cat a b) k h = ([], [], refl, nullable-word L a k (first (nullable a) (nullable b) h), nullable-word L b (k + position_count a) (second (nullable a) (nullable b) h)) where
  first : (x y : Bool) → x && y ≡ true → x ≡ true
  first true y h = refl
  first false y h = absurd (false≢true h)

  second : (x y : Bool) → x && y ≡ true → y ≡ true
  second true y h = h
  second false y h = absurd (false≢true h)
nullable-word L (alt a b) k h = by (nullable a) refl h (nullable-word L a k) (nullable-word L b (k + position_count a)) where
  by : (x : Bool) → nullable a ≡ x → x || nullable b ≡ true → (nullable a ≡ true → WordOf L a k []) → (nullable b ≡ true → WordOf L b (k + position_count a) []) → WordOf L a k [] ⊎ WordOf L b (k + position_count a) []
  by true e h f g = inl (f e)
  by false e h f g = inr (g h)
nullable-word L (opt a) k h = inl refl
nullable-word L (plus a) k h = (0, joined_one (WordOf L a k) [] (nullable-word L a k h))

-- each way to put expressions together keeps the words the same
same_words-cat : (L : set.FinSet nat_cmp → ℕ → List ℕ → Type 0) (a b c d : Unfolded) → HaveSameWords L a c → HaveSameWords L b d → HaveSameWords L (cat a b) (cat c d)
same_words-cat L a b c d x y = record {
  count = ap₂ (λ (m n : ℕ). m + n) x.count y.count;
  into = λ k w h. (h.0, h.1, h.2, x.into k h.0 h.3, moved L d k (position_count a) (position_count c) h.1 x.count (y.into (k + position_count a) h.1 h.4));
  back = λ k w h. (h.0, h.1, h.2, x.back k h.0 h.3, moved L b k (position_count c) (position_count a) h.1 (sym x.count) (y.back (k + position_count c) h.1 h.4));
}

same_words-alt : (L : set.FinSet nat_cmp → ℕ → List ℕ → Type 0) (a b c d : Unfolded) → HaveSameWords L a c → HaveSameWords L b d → HaveSameWords L (alt a b) (alt c d)
same_words-alt L a b c d x y = record {
  count = ap₂ (λ (m n : ℕ). m + n) x.count y.count;
  into = λ k w h. elim h [
    | inl u ↦ inl (x.into k w u)
    | inr v ↦ inr (moved L d k (position_count a) (position_count c) w x.count (y.into (k + position_count a) w v))
  ];
  back = λ k w h. elim h [
    | inl u ↦ inl (x.back k w u)
    | inr v ↦ inr (moved L b k (position_count c) (position_count a) w (sym x.count) (y.back (k + position_count c) w v))
  ];
}

same_words-opt : (L : set.FinSet nat_cmp → ℕ → List ℕ → Type 0) (a c : Unfolded) → HaveSameWords L a c → HaveSameWords L (opt a) (opt c)
same_words-opt L a c x = record {
  count = x.count;
  into = λ k w h. elim h [ inl e ↦ inl e | inr u ↦ inr (x.into k w u) ];
  back = λ k w h. elim h [ inl e ↦ inl e | inr u ↦ inr (x.back k w u) ];
}

same_words-plus : (L : set.FinSet nat_cmp → ℕ → List ℕ → Type 0) (a c : Unfolded) → HaveSameWords L a c → HaveSameWords L (plus a) (plus c)
same_words-plus L a c x = record {
  count = x.count;
  into = λ k w h. (h.0, joined_map (WordOf L a k) (WordOf L c k) (x.into k) (suc h.0) w h.1);
  back = λ k w h. (h.0, joined_map (WordOf L c k) (WordOf L a k) (x.back k) (suc h.0) w h.1);
}

-- removing parts without positions keeps this too
opt_of-same_words : (L : set.FinSet nat_cmp → ℕ → List ℕ → Type 0) (a : Unfolded) → HaveSameWords L (opt_of a) (opt a)
opt_of-same_words L a = by (nullable a) refl where
  by : (b : Bool) → nullable a ≡ b → HaveSameWords L (opt_unless b a) (opt a)
  by false e = same_words-refl L (opt a)
  by true e = record {
    count = refl;
    into = λ k w h. inr h;
    back = λ k w h. elim h [ inl z ↦ same_word L a k [] w (sym z) (nullable-word L a k e) | inr u ↦ u ];
  }

cat_of-same_words : (L : set.FinSet nat_cmp → ℕ → List ℕ → Type 0) (a b : Unfolded) → HaveSameWords L (cat_of a b) (cat a b)
cat_of-same_words L empty b = record {
  count = omega arith;
  into = λ k w h. ([], w, refl, refl, to_zero L b k w h);
  back = λ k w h. same_word L b k h.1 w (sym (h.2 ∙ ap (λ (l : List ℕ). l ++ h.1) h.3)) (from_zero L b k h.1 h.4);
}
cat_of-same_words L a empty = record {
  count = omega arith;
  into = λ k w h. (w, [], sym (append-nil w), h, refl);
  back = λ k w h. same_word L a k h.0 w (sym (h.2 ∙ ap (λ (l : List ℕ). h.0 ++ l) h.4 ∙ append-nil h.0)) h.3;
}
cat_of-same_words L a b = same_words-refl L (cat a b)

alt-left : (L : set.FinSet nat_cmp → ℕ → List ℕ → Type 0) (b : Unfolded) → HaveSameWords L (opt b) (alt empty b)
alt-left L b = record {
  count = omega arith;
  into = λ k w h. elim h [ inl e ↦ inl e | inr u ↦ inr (to_zero L b k w u) ];
  back = λ k w h. elim h [ inl e ↦ inl e | inr u ↦ inr (from_zero L b k w u) ];
}

alt-right : (L : set.FinSet nat_cmp → ℕ → List ℕ → Type 0) (a : Unfolded) → HaveSameWords L (opt a) (alt a empty)
alt-right L a = record {
  count = omega arith;
  into = λ k w h. elim h [ inl e ↦ inr e | inr u ↦ inl u ];
  back = λ k w h. elim h [ inl u ↦ inr u | inr e ↦ inl e ];
}

alt_of-same_words : (L : set.FinSet nat_cmp → ℕ → List ℕ → Type 0) (a b : Unfolded) → HaveSameWords L (alt_of a b) (alt a b)
alt_of-same_words L empty b = same_words-trans L (opt_of b) (opt b) (alt empty b) (opt_of-same_words L b) (alt-left L b)
alt_of-same_words L a empty = same_words-trans L (opt_of a) (opt a) (alt a empty) (opt_of-same_words L a) (alt-right L a)
alt_of-same_words L a b = same_words-refl L (alt a b)

plus_of-same_words : (L : set.FinSet nat_cmp → ℕ → List ℕ → Type 0) (a : Unfolded) → HaveSameWords L (plus_of a) (plus a)
plus_of-same_words L empty = record {
  count = refl;
  into = λ k w h. (0, joined_one (WordOf L empty k) w h);
  back = λ k w h. joined_empty (suc h.0) w h.1;
}
plus_of-same_words L (leaf s) = same_words-refl L (plus (leaf s))
plus_of-same_words L (cat a b) = same_words-refl L (plus (cat a b))
plus_of-same_words L (alt a b) = same_words-refl L (plus (alt a b))
plus_of-same_words L (opt (plus a)) = record {
  count = refl;
  into = λ k w h. (0, joined_one (WordOf L (opt (plus a)) k) w h);
  back = λ k w h. let t = joined_any (WordOf L a k) (suc h.0) w h.1 in any_or_none (WordOf L a k) t.0 w t.1;
}
plus_of-same_words L (opt a) = same_words-refl L (plus (opt a))
plus_of-same_words L (plus a) = record {
  count = refl;
  into = λ k w h. (0, joined_one (WordOf L (plus a) k) w h);
  back = λ k w h.
      let x = h.1 in
      let rest = joined_some (WordOf L a k) h.0 x.1 x.4 in
      let t = joined_more (WordOf L a k) x.3.0 rest.0 x.0 x.1 x.3.1 rest.1 in
      (t.0, joined_same (WordOf L a k) (suc t.0) (x.0 ++ x.1) w (sym x.2) t.1);
}

-- the same for expressions with the same words
cat_of-along : (L : set.FinSet nat_cmp → ℕ → List ℕ → Type 0) (a b c d : Unfolded) → HaveSameWords L a c → HaveSameWords L b d → HaveSameWords L (cat_of a b) (cat c d)
cat_of-along L a b c d x y = same_words-trans L (cat_of a b) (cat a b) (cat c d) (cat_of-same_words L a b) (same_words-cat L a b c d x y)

opt_of-along : (L : set.FinSet nat_cmp → ℕ → List ℕ → Type 0) (a c : Unfolded) → HaveSameWords L a c → HaveSameWords L (opt_of a) (opt c)
opt_of-along L a c x = same_words-trans L (opt_of a) (opt a) (opt c) (opt_of-same_words L a) (same_words-opt L a c x)

plus_of-along : (L : set.FinSet nat_cmp → ℕ → List ℕ → Type 0) (a c : Unfolded) → HaveSameWords L a c → HaveSameWords L (plus_of a) (plus c)
plus_of-along L a c x = same_words-trans L (plus_of a) (plus a) (plus c) (plus_of-same_words L a) (same_words-plus L a c x)

counted-along : (L : set.FinSet nat_cmp → ℕ → List ℕ → Type 0) (r s : Unfolded) (low high : ℕ) → HaveSameWords L r s → HaveSameWords L (simplified_counted r low high) (counted s low high)
counted-along L r s low zero x = same_words-refl L empty
counted-along L r s zero (suc high) x =
    opt_of-along L (cat_of r (simplified_counted r zero high)) (cat s (counted s zero high)) (cat_of-along L r (simplified_counted r zero high) s (counted s zero high) x (counted-along L r s zero high x))
counted-along L r s (suc low) (suc high) x = cat_of-along L r (simplified_counted r low high) s (counted s low high) x (counted-along L r s low high x)

unbounded-along : (L : set.FinSet nat_cmp → ℕ → List ℕ → Type 0) (r s : Unfolded) (n : ℕ) → HaveSameWords L r s → HaveSameWords L (simplified_unbounded r n) (unbounded s n)
unbounded-along L r s zero x = plus_of-along L r s x
unbounded-along L r s (suc n) x = cat_of-along L r (simplified_unbounded r n) s (unbounded s n) x (unbounded-along L r s n x)

repeated-along : (L : set.FinSet nat_cmp → ℕ → List ℕ → Type 0) (r s : Unfolded) (low : ℕ) (high : Option ℕ) → HaveSameWords L r s → HaveSameWords L (simplified_repeated r low high) (repeated s low high)
repeated-along L r s low (Some high) x = counted-along L r s low high x
repeated-along L r s zero None x = opt_of-along L (plus_of r) (plus s) (plus_of-along L r s x)
repeated-along L r s (suc low) None x = unbounded-along L r s low x

simplified-same_words : (L : set.FinSet nat_cmp → ℕ → List ℕ → Type 0) (f g : List ℕ → Unfolded) → ((name : List ℕ) → HaveSameWords L (f name) (g name)) → (tree : Regex) → HaveSameWords L (simplified f tree) (written_out g tree)
simplified-same_words L f g h nil = same_words-refl L empty
simplified-same_words L f g h (one_of s) = same_words-refl L (leaf s)
simplified-same_words L f g h (then a b) = cat_of-along L (simplified f a) (simplified f b) (written_out g a) (written_out g b) (simplified-same_words L f g h a) (simplified-same_words L f g h b)
simplified-same_words L f g h (or a b) =
    same_words-trans L (alt_of (simplified f a) (simplified f b)) (alt (simplified f a) (simplified f b)) (alt (written_out g a) (written_out g b)) (alt_of-same_words L (simplified f a) (simplified f b))
    (same_words-alt L (simplified f a) (simplified f b) (written_out g a) (written_out g b) (simplified-same_words L f g h a) (simplified-same_words L f g h b))
simplified-same_words L f g h (times body low high) = repeated-along L (simplified f body) (written_out g body) low high (simplified-same_words L f g h body)
simplified-same_words L f g h (named name) = h name

if_defined-same_words : (L : set.FinSet nat_cmp → ℕ → List ℕ → Type 0) (f g : List ℕ → Unfolded) → ((name : List ℕ) → HaveSameWords L (f name) (g name)) → (o : Option Regex) → HaveSameWords L (simplified_if_defined f o) (written_if_defined g o)
if_defined-same_words L f g h None = same_words-refl L empty
if_defined-same_words L f g h (Some tree) = simplified-same_words L f g h tree

name-same_words : (L : set.FinSet nat_cmp → ℕ → List ℕ → Type 0) (definitions : List PlainDefinition) (n : ℕ) (name : List ℕ) → HaveSameWords L (simplified_name definitions n name) (name_written_out definitions n name)
name-same_words L definitions zero name = same_words-refl L empty
name-same_words L definitions (suc n) name = if_defined-same_words L (simplified_name definitions n) (name_written_out definitions n) (name-same_words L definitions n) (tree_named definitions name)

pub pattern-same_words : (L : set.FinSet nat_cmp → ℕ → List ℕ → Type 0) (definitions : List PlainDefinition) (tree : Regex) → HaveSameWords L (simplified_pattern definitions tree) (pattern_written_out definitions tree)
unfolding simplified_pattern pattern_written_out
pattern-same_words L definitions tree = simplified-same_words L (simplified_name definitions 32) (name_written_out definitions 32) (name-same_words L definitions 32) tree

-- the words of a pattern are those of the expression as it is kept
pub simplified-words : (L : set.FinSet nat_cmp → ℕ → List ℕ → Type 0) (definitions : List PlainDefinition) (tree : Regex) (k : ℕ) (w : List ℕ)
    → WordOf L (simplified_pattern definitions tree) k w ↔ WordOf L (pattern_written_out definitions tree) k w
simplified-words L definitions tree k w = let x = pattern-same_words L definitions tree in (x.into k w, x.back k w)
