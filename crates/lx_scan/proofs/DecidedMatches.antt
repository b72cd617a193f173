-- It is decidable if an expression matches a word, provided that the same is decidable for its names.
use Rattle.std.proofs.Common.{◌≡◌, ℕ, zero, suc, ◌+◌, ◌<◌, ◌≤◌, ◌⊎◌, inl, inr, IsTrue, IfSome, List, [], ◌∷◌, ◌++◌, Option, Some, None, length, refl, ap, ap₂, sym, subst, arith, length-append}
use Rattle.std.specs.FinSet as set
use Rattle.std.specs.Ordering.{nat_cmp}
use native.Mathlib.Decide.{ℕ_discrete}
use Rattle.lx_ere.specs.Regex.{Regex, nil, one_of, then, or, times, named}
use Rattle.lx_ere.specs.Matching.{Splits, Repeats, RepeatsBetween, Matches}
use Rattle.lx_ere.proofs.Deciding.{along, both, either, decide_true, below_or_not, under, decide_below}

-- ---- numbers

pub decide_at_most : (m n : ℕ) → Dec (m ≤ n)
decide_at_most m n = elim (below_or_not m n) as (λ _. Dec (m ≤ n)) [ inl l ↦ yes l | inr l ↦ no (λ h. absurd (omega (arith, l, h))) ]

-- no number below a bound, or the greatest one
pub greatest : (P : ℕ → Type 0) → ((k : ℕ) → Dec (P k)) → (n : ℕ) → ((k : ℕ) → k < n → P k → ⊥) ⊎ ((k : ℕ) × (k < n) × P k × ((m : ℕ) → m < n → P m → m ≤ k))
greatest P d zero = inl (λ k l p. absurd (omega (arith, l)))
greatest P d (suc n) = step (greatest P d n) (d n) where
  step : ((k : ℕ) → k < n → P k → ⊥) ⊎ ((k : ℕ) × (k < n) × P k × ((m : ℕ) → m < n → P m → m ≤ k)) → Dec (P n) →
      ((k : ℕ) → k < suc n → P k → ⊥) ⊎ ((k : ℕ) × (k < suc n) × P k × ((m : ℕ) → m < suc n → P m → m ≤ k))
  step rest (yes p) = inr (n, (omega arith), p, λ m l q. omega (arith, l))
  step (inl none) (no x) = inl (λ k l p. elim (ℕ_discrete k n) as (λ _. ⊥) [ yes e ↦ x (subst P e p) | no other ↦ none k (under k n l other) p ])
  step (inr h) (no x) =
      inr (h.0, (let l = h.1 in omega arith), h.2, λ m l p. elim (ℕ_discrete m n) as (λ _. m ≤ h.0) [ yes e ↦ absurd (x (subst P e p)) | no other ↦ h.3 m (under m n l other) p ])

-- no number below a bound, or the least one
pub least : (P : ℕ → Type 0) → ((k : ℕ) → Dec (P k)) → (n : ℕ) → ((k : ℕ) → k < n → P k → ⊥) ⊎ ((k : ℕ) × (k < n) × P k × ((m : ℕ) → m < n → P m → k ≤ m))
least P d zero = inl (λ k l p. absurd (omega (arith, l)))
least P d (suc n) = step (least P d n) (d n) where
  step : ((k : ℕ) → k < n → P k → ⊥) ⊎ ((k : ℕ) × (k < n) × P k × ((m : ℕ) → m < n → P m → k ≤ m)) → Dec (P n) →
      ((k : ℕ) → k < suc n → P k → ⊥) ⊎ ((k : ℕ) × (k < suc n) × P k × ((m : ℕ) → m < suc n → P m → k ≤ m))
  step (inr h) x =
      inr (h.0, (let l = h.1 in omega arith), h.2, λ m l p. elim (ℕ_discrete m n) as (λ _. h.0 ≤ m) [ yes e ↦ (let k = h.1 in omega (arith, e, k)) | no other ↦ h.3 m (under m n l other) p ])
  step (inl none) (yes p) =
      inr (n, (omega arith), p, λ m l q. elim (ℕ_discrete m n) as (λ _. n ≤ m) [ yes e ↦ omega (arith, e) | no other ↦ absurd (none m (under m n l other) q) ])
  step (inl none) (no x) = inl (λ k l p. elim (ℕ_discrete k n) as (λ _. ⊥) [ yes e ↦ x (subst P e p) | no other ↦ none k (under k n l other) p ])

-- ---- words

cons≢nil : (b : ℕ) (w : List ℕ) → b ∷ w ≡ [] → ⊥
cons≢nil b w e = absurd (cc)

pub decide_same : (v w : List ℕ) → Dec (v ≡ w)
decide_same [] [] = yes refl
decide_same [] (b ∷ w) = no (λ e. cons≢nil b w (sym e))
decide_same (a ∷ v) [] = no (λ e. cons≢nil a v e)
decide_same (a ∷ v) (b ∷ w) = along (λ h. ap₂ (λ (c : ℕ) (u : List ℕ). c ∷ u) h.0 h.1) (λ e. ((cc), (cc))) (both (ℕ_discrete a b) (decide_same v w))

split_nil : (L M : List ℕ → Type 0) (u v : List ℕ) → L u → M v → [] ≡ u ++ v → L [] × M []
split_nil L M [] v l m e = (l, subst M (sym e) m)
split_nil L M (x ∷ u) v l m e = absurd (cons≢nil x (u ++ v) (sym e))

split_cons : (L M : List ℕ → Type 0) (b : ℕ) (w u v : List ℕ) → L u → M v → b ∷ w ≡ u ++ v → (L [] × M (b ∷ w)) ⊎ Splits (λ t. L (b ∷ t)) M w
split_cons L M b w [] v l m e = inl (l, subst M (sym e) m)
split_cons L M b w (x ∷ u) v l m e = let head : x ≡ b = cc in let tail : w ≡ u ++ v = cc in inr (u, v, subst (λ (y : ℕ). L (y ∷ u)) head l, m, tail)

decide_splits : (L M : List ℕ → Type 0) → ((u : List ℕ) → Dec (L u)) → ((v : List ℕ) → Dec (M v)) → (w : List ℕ) → Dec (Splits L M w)
decide_splits L M dl dm [] = along (λ h. ([], [], h.0, h.1, refl)) (λ h. split_nil L M h.0 h.1 h.2 h.3 h.4) (both (dl []) (dm []))
decide_splits L M dl dm (b ∷ w) = along out (λ h. split_cons L M b w h.0 h.1 h.2 h.3 h.4) (either (both (dl []) (dm (b ∷ w))) (decide_splits (λ t. L (b ∷ t)) M (λ t. dl (b ∷ t)) dm w)) where
  out : (L [] × M (b ∷ w)) ⊎ Splits (λ t. L (b ∷ t)) M w → Splits L M (b ∷ w)
  out (inl h) = ([], b ∷ w, h.0, h.1, refl)
  out (inr h) = (b ∷ h.0, h.1, h.2, h.3, ap (λ (t : List ℕ). b ∷ t) h.4)

-- ---- repetitions

decide_repeats : (L : List ℕ → Type 0) → ((u : List ℕ) → Dec (L u)) → (k : ℕ) (w : List ℕ) → Dec (Repeats L k w)
decide_repeats L d zero w = decide_same w []
decide_repeats L d (suc k) w = decide_splits L (Repeats L k) d (decide_repeats L d k) w

-- if there are more words than bytes, one is empty and can be left out
fewer : (L : List ℕ → Type 0) (k : ℕ) (u v w : List ℕ) → length w ≤ k → L u → Repeats L k v → w ≡ u ++ v → Repeats L k w
fewer L k [] v w l x r e = subst (Repeats L k) (sym e) r
fewer L zero (b ∷ u) v w l x r e = let n : length w ≡ suc (length (u ++ v)) = ap (λ (t : List ℕ). length t) e in absurd (omega (arith, n))
fewer L (suc k) (b ∷ u) v w l x r e =
    let n : length w ≡ suc (length (u ++ v)) = ap (λ (t : List ℕ). length t) e in
    (b ∷ u, v, x, fewer L k r.0 r.1 v (omega (arith, n, l, length-append u v)) r.2 r.3 r.4, e)

-- at most one word for each byte
no_more : (L : List ℕ → Type 0) (k n : ℕ) (w : List ℕ) → length w ≤ n → n ≤ k → Repeats L k w → Repeats L n w
no_more L zero n w l m r = subst (λ (j : ℕ). Repeats L j w) (let e : 0 ≡ n = omega arith in e) r
no_more L (suc k) n w l m r = elim (below_or_not n k) as (λ _. Repeats L n w) [
  | inl less ↦ no_more L k n w l less (fewer L k r.0 r.1 w (omega (arith, l, less)) r.2 r.3 r.4)
  | inr more ↦ subst (λ (j : ℕ). Repeats L j w) (let e : suc k ≡ n = omega (arith, m, more) in e) r
]

lower_most : (high : Option ℕ) (n k : ℕ) → n ≤ k → IfSome high (λ most. k ≤ most) → IfSome high (λ most. n ≤ most)
lower_most None n k l h = h
lower_most (Some most) n k l h = omega (arith, l, h)

decide_most : (high : Option ℕ) (k : ℕ) → Dec (IfSome high (λ most. k ≤ most))
decide_most None k = yes tt
decide_most (Some most) k = decide_at_most k most

-- k repeats of the body, if the bounds allow that number
abbrev RepeatsWithin : (List ℕ → Type 0) → ℕ → Option ℕ → List ℕ → ℕ → Type 0
RepeatsWithin L low high w k = (low ≤ k) × IfSome high (λ most. k ≤ most) × Repeats L k w

decide_within : (L : List ℕ → Type 0) → ((u : List ℕ) → Dec (L u)) → (low : ℕ) (high : Option ℕ) (w : List ℕ) (k : ℕ) → Dec (RepeatsWithin L low high w k)
decide_within L d low high w k = along (λ h. (h.0, h.1.0, h.1.1)) (λ h. (h.0, (h.1, h.2))) (both (decide_at_most low k) (both (decide_most high k) (decide_repeats L d k w)))

bounded : (L : List ℕ → Type 0) (low : ℕ) (high : Option ℕ) (w : List ℕ) (k : ℕ) → low ≤ k → IfSome high (λ most. k ≤ most) → Repeats L k w →
    (j : ℕ) × (j < suc (low + length w)) × RepeatsWithin L low high w j
bounded L low high w k l m r = elim (below_or_not k (low + length w)) as (λ _. (j : ℕ) × (j < suc (low + length w)) × RepeatsWithin L low high w j) [
  | inl less ↦ (k, (omega (arith, less)), (l, m, r))
  | inr more ↦
      let n = low + length w in
      (n, (omega arith), ((omega arith), lower_most high n k (omega (arith, more)) m, no_more L k n w (omega arith) (omega (arith, more)) r))
]

decide_times : (L : List ℕ → Type 0) → ((u : List ℕ) → Dec (L u)) → (low : ℕ) (high : Option ℕ) (w : List ℕ) → Dec (RepeatsBetween L low high w)
decide_times L d low high w =
    along (λ h. (h.0, h.2.0, h.2.1, h.2.2)) (λ h. bounded L low high w h.0 h.1 h.2 h.3) (decide_below (RepeatsWithin L low high w) (decide_within L d low high w) (suc (low + length w)))

-- ---- expressions

decide_one_of : (s : set.FinSet nat_cmp) (w : List ℕ) → Dec ((b : ℕ) × IsTrue (set.contains s b) × (w ≡ b ∷ []))
decide_one_of s [] = no (λ h. cons≢nil h.0 [] (sym h.2))
decide_one_of s (a ∷ []) = along (λ h. (a, h, refl)) (λ h. let e : h.0 ≡ a = (let f = h.2 in cc) in subst (λ (b : ℕ). IsTrue (set.contains s b)) e h.1) (decide_true (set.contains s a))
decide_one_of s (a ∷ b ∷ w) = no (λ h. cons≢nil b w (let f = h.2 in cc))

pub decide_matches : (names : List ℕ → List ℕ → Type 0) → ((name w : List ℕ) → Dec (names name w)) → (r : Regex) (w : List ℕ) → Dec (Matches names r w)
decide_matches names d nil w = decide_same w []
decide_matches names d (one_of s) w = decide_one_of s w
decide_matches names d (then a b) w = decide_splits (Matches names a) (Matches names b) (decide_matches names d a) (decide_matches names d b) w
decide_matches names d (or a b) w = either (decide_matches names d a w) (decide_matches names d b w)
decide_matches names d (times body low high) w = decide_times (Matches names body) (decide_matches names d body) low high w
decide_matches names d (named name) w = d name w
