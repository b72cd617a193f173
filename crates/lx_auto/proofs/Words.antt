-- The words of positions are the chains of positions that First, Follow and Last allow.
use Rattle.std.proofs.lemmas.Bool.{cases_lt}
use Rattle.std.proofs.Common.{◌≡◌, ℕ, zero, suc, ◌+◌, ◌≤◌, ◌<◌, ◌⊎◌, inl, inr, Bool, true, false, ◌&&◌, ◌||◌, List, [], ◌∷◌, ◌++◌, refl, sym, ◌∙◌, ap, arith}
use Rattle.lx_auto.specs.Unfolded.{Unfolded, empty, leaf, cat, alt, opt, plus, position_count, Joined, PositionWord, nullable}
use Rattle.lx_auto.specs.Positions.{First, Last, Follow, Completes}

pub and_true : (a b : Bool) → a && b ≡ true → (a ≡ true) × (b ≡ true)
and_true true b h = (refl, h)
and_true false b h = absurd (cc)

pub or_true : (a b : Bool) → a || b ≡ true → (a ≡ true) ⊎ (b ≡ true)
or_true true b h = inl refl
or_true false b h = inr h

pub or_left : (a b : Bool) → a ≡ true → a || b ≡ true
or_left a b h = rw h refl

pub or_right : (a b : Bool) → b ≡ true → a || b ≡ true
or_right true b h = refl
or_right false b h = h

-- the start of a joined list
pub cons_append : (us vs ps : List ℕ) (p : ℕ) → p ∷ ps ≡ us ++ vs →
    ((us ≡ []) × (vs ≡ p ∷ ps)) ⊎ ((xs : List ℕ) × (us ≡ p ∷ xs) × (ps ≡ xs ++ vs))
cons_append [] vs ps p e = inl (refl, sym e)
cons_append (x ∷ us) vs ps p e = inr (us, (cc), (cc))

pub nil_append : (us vs : List ℕ) → [] ≡ us ++ vs → (us ≡ []) × (vs ≡ [])
nil_append [] vs e = (refl, sym e)
nil_append (x ∷ us) vs e = absurd (cc)

pub in_first : (e : Unfolded) (k p : ℕ) → First e k p → (k ≤ p) × (p < k + position_count e)
in_first empty k p h = absurd h
in_first (leaf bytes) k p h = (omega arith, omega arith)
in_first (cat a b) k p h = elim h [
  | inl x ↦ let r = in_first a k p x in (omega arith, omega arith)
  | inr y ↦ let r = in_first b (k + position_count a) p y.1 in (omega arith, omega arith)
]
in_first (alt a b) k p h = elim h [
  | inl x ↦ let r = in_first a k p x in (omega arith, omega arith)
  | inr y ↦ let r = in_first b (k + position_count a) p y in (omega arith, omega arith)
]
in_first (opt a) k p h = in_first a k p h
in_first (plus a) k p h = in_first a k p h

pub in_completes : (e : Unfolded) (k p : ℕ) (vs : List ℕ) → Completes e k p vs → (k ≤ p) × (p < k + position_count e)
in_completes empty k p vs h = absurd h
in_completes (leaf bytes) k p vs h = let e = h.0 in (omega arith, omega arith)
in_completes (cat a b) k p vs h = elim h [
  | inl x ↦ let r = in_completes a k p x.0 x.3 in (omega arith, omega arith)
  | inr y ↦ let r = in_completes b (k + position_count a) p vs y in (omega arith, omega arith)
]
in_completes (alt a b) k p vs h = elim h [
  | inl x ↦ let r = in_completes a k p vs x in (omega arith, omega arith)
  | inr y ↦ let r = in_completes b (k + position_count a) p vs y in (omega arith, omega arith)
]
in_completes (opt a) k p vs h = in_completes a k p vs h
in_completes (plus a) k p vs h = in_completes a k p h.0 h.3

-- the parts of a joined list may be left out if they are empty
joined_nil : (P : List ℕ → Type 0) → P [] → (n : ℕ) → Joined P n []
joined_nil P h zero = refl
joined_nil P h (suc n) = ([], [], refl, h, joined_nil P h n)

joined_of_nil : (P : List ℕ → Type 0) (n : ℕ) (ps : List ℕ) → [] ≡ ps → Joined P (suc n) ps → P []
joined_of_nil P n ps e j = let t = nil_append j.0 j.1 (e ∙ j.2) in rw t.0 at j.3

-- the first part of a joined list that isn't empty
joined_cons : (P : List ℕ → Type 0) (n : ℕ) (p : ℕ) (ps qs : List ℕ) → qs ≡ p ∷ ps → Joined P n qs →
    (xs : List ℕ) × (ys : List ℕ) × (ps ≡ xs ++ ys) × P (p ∷ xs) × ((m : ℕ) × Joined P m ys)
joined_cons P zero p ps qs e j = absurd (cc)
joined_cons P (suc n) p ps qs e j = elim (cons_append j.0 j.1 ps p (sym e ∙ j.2)) [
  | inl t ↦ joined_cons P n p ps j.1 t.1 j.4
  | inr t ↦ (t.0, j.1, t.2, rw t.1 at j.3, (n, j.4))
]

pub nullable_of_word : (e : Unfolded) (k : ℕ) (ps : List ℕ) → [] ≡ ps → PositionWord e k ps → nullable e ≡ true
nullable_of_word empty k ps z h = refl
nullable_of_word (leaf bytes) k ps z h = absurd (cc)
nullable_of_word (cat a b) k ps z h =
    let t = nil_append h.0 h.1 (z ∙ h.2) in
    let x = nullable_of_word a k h.0 (sym t.0) h.3 in
    let y = nullable_of_word b (k + position_count a) h.1 (sym t.1) h.4 in
    rw (x, y) refl
nullable_of_word (alt a b) k ps z h = elim h [
  | inl x ↦ or_left (nullable a) (nullable b) (nullable_of_word a k ps z x)
  | inr y ↦ or_right (nullable a) (nullable b) (nullable_of_word b (k + position_count a) ps z y)
]
nullable_of_word (opt a) k ps z h = refl
nullable_of_word (plus a) k ps z h = nullable_of_word a k [] refl (joined_of_nil (PositionWord a k) h.0 ps z h.1)

pub word_of_nullable : (e : Unfolded) (k : ℕ) → nullable e ≡ true → PositionWord e k []
word_of_nullable empty k h = refl
word_of_nullable (leaf bytes) k h = absurd (cc)
word_of_nullable (cat a b) k h =
    let t = and_true (nullable a) (nullable b) h in
    ([], [], refl, word_of_nullable a k t.0, word_of_nullable b (k + position_count a) t.1)
word_of_nullable (alt a b) k h = elim (or_true (nullable a) (nullable b) h) [
  | inl x ↦ inl (word_of_nullable a k x)
  | inr y ↦ inr (word_of_nullable b (k + position_count a) y)
]
word_of_nullable (opt a) k h = inl refl
word_of_nullable (plus a) k h = (0, ([], [], refl, word_of_nullable a k h, refl))

-- some word of positions, so that every begun word can be completed
pub some_word : (e : Unfolded) (k : ℕ) → (vs : List ℕ) × PositionWord e k vs
some_word empty k = ([], refl)
some_word (leaf bytes) k = (k ∷ [], refl)
some_word (cat a b) k =
    let x = some_word a k in
    let y = some_word b (k + position_count a) in
    (x.0 ++ y.0, (x.0, y.0, refl, x.1, y.1))
some_word (alt a b) k = let x = some_word a k in (x.0, inl x.1)
some_word (opt a) k = ([], inl refl)
some_word (plus a) k = let x = some_word a k in (x.0 ++ [], (0, (x.0, [], refl, x.1, refl)))

pub some_completion : (e : Unfolded) (k p : ℕ) → k ≤ p → p < k + position_count e → (vs : List ℕ) × Completes e k p vs
some_completion empty k p l h = absurd (omega arith)
some_completion (leaf bytes) k p l h = ([], (omega arith, refl))
some_completion (cat a b) k p l h = elim (cases_lt p (k + position_count a)) [
  | inl x ↦ let y = some_completion a k p l x in
      let z = some_word b (k + position_count a) in
      (y.0 ++ z.0, inl (y.0, z.0, refl, y.1, z.1))
  | inr x ↦ let y = some_completion b (k + position_count a) p x (omega arith) in (y.0, inr y.1)
]
some_completion (alt a b) k p l h = elim (cases_lt p (k + position_count a)) [
  | inl x ↦ let y = some_completion a k p l x in (y.0, inl y.1)
  | inr x ↦ let y = some_completion b (k + position_count a) p x (omega arith) in (y.0, inr y.1)
]
some_completion (opt a) k p l h = some_completion a k p l h
some_completion (plus a) k p l h = let y = some_completion a k p l h in (y.0 ++ [], (y.0, [], refl, y.1, (0, refl)))

-- a word's first position, and the rest
pub word_cons : (e : Unfolded) (k p : ℕ) (vs qs : List ℕ) → qs ≡ p ∷ vs → PositionWord e k qs → First e k p × Completes e k p vs
word_cons empty k p vs qs e h = absurd (cc)
word_cons (leaf bytes) k p vs qs e h = ((cc), ((cc), (cc)))
word_cons (cat a b) k p vs qs e h = elim (cons_append h.0 h.1 vs p (sym e ∙ h.2)) [
  | inl t ↦ let r = word_cons b (k + position_count a) p vs h.1 t.1 h.4 in
      (inr (nullable_of_word a k h.0 (sym t.0) h.3, r.0), inr r.1)
  | inr t ↦ let r = word_cons a k p t.0 h.0 t.1 h.3 in (inl r.0, inl (t.0, h.1, t.2, r.1, h.4))
]
word_cons (alt a b) k p vs qs e h = elim h [
  | inl x ↦ let r = word_cons a k p vs qs e x in (inl r.0, inl r.1)
  | inr y ↦ let r = word_cons b (k + position_count a) p vs qs e y in (inr r.0, inr r.1)
]
word_cons (opt a) k p vs qs e h = elim h [
  | inl x ↦ absurd (cc)
  | inr y ↦ word_cons a k p vs qs e y
]
word_cons (plus a) k p vs qs e h =
    let t = joined_cons (PositionWord a k) (suc h.0) p vs qs e h.1 in
    let r = word_cons a k p t.0 (p ∷ t.0) refl t.3 in
    (r.0, (t.0, t.1, t.2, r.1, t.4))

pub cons_word : (e : Unfolded) (k p : ℕ) (vs : List ℕ) → First e k p → Completes e k p vs → PositionWord e k (p ∷ vs)
cons_word empty k p vs f h = absurd f
cons_word (leaf bytes) k p vs f h = cc
cons_word (cat a b) k p vs f h = elim f [
  | inl x ↦ elim h [
    | inl y ↦ (p ∷ y.0, y.1, ap (λ l. p ∷ l) y.2, cons_word a k p y.0 x y.3, y.4)
    | inr y ↦ let r = in_first a k p x in let s = in_completes b (k + position_count a) p vs y in absurd (omega arith)
  ]
  | inr x ↦ elim h [
    | inl y ↦ let r = in_first b (k + position_count a) p x.1 in let s = in_completes a k p y.0 y.3 in absurd (omega arith)
    | inr y ↦ ([], p ∷ vs, refl, word_of_nullable a k x.0, cons_word b (k + position_count a) p vs x.1 y)
  ]
]
cons_word (alt a b) k p vs f h = elim f [
  | inl x ↦ elim h [
    | inl y ↦ inl (cons_word a k p vs x y)
    | inr y ↦ let r = in_first a k p x in let s = in_completes b (k + position_count a) p vs y in absurd (omega arith)
  ]
  | inr x ↦ elim h [
    | inl y ↦ let r = in_first b (k + position_count a) p x in let s = in_completes a k p vs y in absurd (omega arith)
    | inr y ↦ inr (cons_word b (k + position_count a) p vs x y)
  ]
]
cons_word (opt a) k p vs f h = inr (cons_word a k p vs f h)
cons_word (plus a) k p vs f h = (h.4.0, (p ∷ h.0, h.1, ap (λ l. p ∷ l) h.2, cons_word a k p h.0 f h.3, h.4.1))

-- nothing is left exactly if the last position was read
pub last_completes : (e : Unfolded) (k p : ℕ) → Last e k p → Completes e k p []
last_completes empty k p h = absurd h
last_completes (leaf bytes) k p h = (h, refl)
last_completes (cat a b) k p h = elim h [
  | inl x ↦ inr (last_completes b (k + position_count a) p x)
  | inr x ↦ inl ([], [], refl, last_completes a k p x.1, word_of_nullable b (k + position_count a) x.0)
]
last_completes (alt a b) k p h = elim h [
  | inl x ↦ inl (last_completes a k p x)
  | inr x ↦ inr (last_completes b (k + position_count a) p x)
]
last_completes (opt a) k p h = last_completes a k p h
last_completes (plus a) k p h = ([], [], refl, last_completes a k p h, (0, refl))

pub completes_last : (e : Unfolded) (k p : ℕ) (vs : List ℕ) → [] ≡ vs → Completes e k p vs → Last e k p
completes_last empty k p vs z h = absurd h
completes_last (leaf bytes) k p vs z h = h.0
completes_last (cat a b) k p vs z h = elim h [
  | inl x ↦ let t = nil_append x.0 x.1 (z ∙ x.2) in
      inr (nullable_of_word b (k + position_count a) x.1 (sym t.1) x.4, completes_last a k p x.0 (sym t.0) x.3)
  | inr x ↦ inl (completes_last b (k + position_count a) p vs z x)
]
completes_last (alt a b) k p vs z h = elim h [
  | inl x ↦ inl (completes_last a k p vs z x)
  | inr x ↦ inr (completes_last b (k + position_count a) p vs z x)
]
completes_last (opt a) k p vs z h = completes_last a k p vs z h
completes_last (plus a) k p vs z h = let t = nil_append h.0 h.1 (z ∙ h.2) in completes_last a k p h.0 (sym t.0) h.3

pub in_last : (e : Unfolded) (k p : ℕ) → Last e k p → (k ≤ p) × (p < k + position_count e)
in_last e k p h = in_completes e k p [] (last_completes e k p h)

pub in_follow : (e : Unfolded) (k p q : ℕ) → Follow e k p q → (k ≤ p) × (p < k + position_count e) × (k ≤ q) × (q < k + position_count e)
in_follow empty k p q h = absurd h
in_follow (leaf bytes) k p q h = absurd h
in_follow (cat a b) k p q h = elim h [
  | inl x ↦ let r = in_follow a k p q x in (omega arith, omega arith, omega arith, omega arith)
  | inr y ↦ elim y [
    | inl x ↦ let r = in_follow b (k + position_count a) p q x in (omega arith, omega arith, omega arith, omega arith)
    | inr x ↦ let r = in_last a k p x.0 in let s = in_first b (k + position_count a) q x.1 in (omega arith, omega arith, omega arith, omega arith)
  ]
]
in_follow (alt a b) k p q h = elim h [
  | inl x ↦ let r = in_follow a k p q x in (omega arith, omega arith, omega arith, omega arith)
  | inr x ↦ let r = in_follow b (k + position_count a) p q x in (omega arith, omega arith, omega arith, omega arith)
]
in_follow (opt a) k p q h = in_follow a k p q h
in_follow (plus a) k p q h = elim h [
  | inl x ↦ in_follow a k p q x
  | inr x ↦ let r = in_last a k p x.0 in let s = in_first a k q x.1 in (r.0, r.1, s.0, s.1)
]

-- one more position of a begun word
pub completes_cons : (e : Unfolded) (k p q : ℕ) (vs qs : List ℕ) → qs ≡ q ∷ vs → Completes e k p qs → Follow e k p q × Completes e k q vs
completes_cons empty k p q vs qs e h = absurd h
completes_cons (leaf bytes) k p q vs qs e h = let z = h.1 in absurd (cc)
completes_cons (cat a b) k p q vs qs e h = elim h [
  | inl x ↦ elim (cons_append x.0 x.1 vs q (sym e ∙ x.2)) [
    | inl t ↦ let r = word_cons b (k + position_count a) q vs x.1 t.1 x.4 in
        (inr (inr (completes_last a k p x.0 (sym t.0) x.3, r.0)), inr r.1)
    | inr t ↦ let r = completes_cons a k p q t.0 x.0 t.1 x.3 in (inl r.0, inl (t.0, x.1, t.2, r.1, x.4))
  ]
  | inr x ↦ let r = completes_cons b (k + position_count a) p q vs qs e x in (inr (inl r.0), inr r.1)
]
completes_cons (alt a b) k p q vs qs e h = elim h [
  | inl x ↦ let r = completes_cons a k p q vs qs e x in (inl r.0, inl r.1)
  | inr x ↦ let r = completes_cons b (k + position_count a) p q vs qs e x in (inr r.0, inr r.1)
]
completes_cons (opt a) k p q vs qs e h = completes_cons a k p q vs qs e h
completes_cons (plus a) k p q vs qs e h = elim (cons_append h.0 h.1 vs q (sym e ∙ h.2)) [
  | inl t ↦ let j = joined_cons (PositionWord a k) h.4.0 q vs h.1 t.1 h.4.1 in
      let r = word_cons a k q j.0 (q ∷ j.0) refl j.3 in
      (inr (completes_last a k p h.0 (sym t.0) h.3, r.0), (j.0, j.1, j.2, r.1, j.4))
  | inr t ↦ let r = completes_cons a k p q t.0 h.0 t.1 h.3 in (inl r.0, (t.0, h.1, t.2, r.1, h.4))
]

pub cons_completes : (e : Unfolded) (k p q : ℕ) (vs : List ℕ) → Follow e k p q → Completes e k q vs → Completes e k p (q ∷ vs)
cons_completes empty k p q vs f h = absurd f
cons_completes (leaf bytes) k p q vs f h = absurd f
cons_completes (cat a b) k p q vs f h = elim f [
  | inl x ↦ elim h [
    | inl y ↦ inl (q ∷ y.0, y.1, ap (λ l. q ∷ l) y.2, cons_completes a k p q y.0 x y.3, y.4)
    | inr y ↦ let r = in_follow a k p q x in let s = in_completes b (k + position_count a) q vs y in absurd (omega arith)
  ]
  | inr g ↦ elim g [
    | inl x ↦ elim h [
      | inl y ↦ let r = in_follow b (k + position_count a) p q x in let s = in_completes a k q y.0 y.3 in absurd (omega arith)
      | inr y ↦ inr (cons_completes b (k + position_count a) p q vs x y)
    ]
    | inr x ↦ elim h [
      | inl y ↦ let r = in_first b (k + position_count a) q x.1 in let s = in_completes a k q y.0 y.3 in absurd (omega arith)
      | inr y ↦ inl ([], q ∷ vs, refl, last_completes a k p x.0, cons_word b (k + position_count a) q vs x.1 y)
    ]
  ]
]
cons_completes (alt a b) k p q vs f h = elim f [
  | inl x ↦ elim h [
    | inl y ↦ inl (cons_completes a k p q vs x y)
    | inr y ↦ let r = in_follow a k p q x in let s = in_completes b (k + position_count a) q vs y in absurd (omega arith)
  ]
  | inr x ↦ elim h [
    | inl y ↦ let r = in_follow b (k + position_count a) p q x in let s = in_completes a k q vs y in absurd (omega arith)
    | inr y ↦ inr (cons_completes b (k + position_count a) p q vs x y)
  ]
]
cons_completes (opt a) k p q vs f h = cons_completes a k p q vs f h
cons_completes (plus a) k p q vs f h = elim f [
  | inl x ↦ (q ∷ h.0, h.1, ap (λ l. q ∷ l) h.2, cons_completes a k p q h.0 x h.3, h.4)
  | inr x ↦ ([], q ∷ vs, refl, last_completes a k p x.0, (suc h.4.0, (q ∷ h.0, h.1, ap (λ l. q ∷ l) h.2, cons_word a k q h.0 x.1 h.3, h.4.1)))
]
