-- The passes determine where a set of positions can end, and which positions can be read next.
use Rattle.std.proofs.Common.{◌≡◌, ℕ, ◌+◌, ◌≤◌, ◌<◌, ◌⊎◌, ◌↔◌, inl, inr, Bool, true, ◌&&◌, ◌||◌, List, length, refl, sym, ◌∙◌, ap, subst, arith}
use Rattle.std.proofs.lemmas.Bool.{cases_lt}
use Rattle.std.specs.Prelude.{slice_set}
use Rattle.lx_auto.specs.Unfolded.{Unfolded, empty, leaf, cat, alt, opt, plus, position_count, nullable}
use Rattle.lx_auto.specs.Positions.{CanEnd, CanRead}
use Rattle.lx_auto.specs.Marking.{flag}
use Rattle.lx_auto.specs.Passing.{ended, read_list}
use Rattle.lx_auto.proofs.Words.{and_true, or_true, or_left, or_right, in_first, in_follow}
use Rattle.lx_auto.proofs.PassLaws.{end_of_cat, end_of_alt, read_in_cat, read_in_alt, read_in_plus}
use Rattle.lx_auto.proofs.FlagLemmas.{flag_set_same, flag_set_other, length_set}

both_true : (p q : Bool) → p ≡ true → q ≡ true → p && q ≡ true
both_true p q e f = rw (e, f) refl

-- equal reasons to enter give equal reads
read_along : (M : ℕ → Type 0) (E F : Type 0) → (E → F) → (e : Unfolded) (k q : ℕ) → CanRead M E e k q → CanRead M F e k q
read_along M E F f e k q c = elim c [ inl x ↦ inl (f x.0, x.1) | inr x ↦ inr x ]

-- a readable position is in the range of the expression
pub in_read : (M : ℕ → Type 0) (E : Type 0) (e : Unfolded) (k q : ℕ) → CanRead M E e k q → (k ≤ q) × (q < k + position_count e)
in_read M E e k q c = elim c [
  | inl x ↦ in_first e k q x.1
  | inr x ↦ let r = in_follow e k x.0 q x.2 in (r.2, r.3)
]

module _ (marks : List Bool) where
  Marked : ℕ → Type 0
  Marked p = flag marks p ≡ true

  pub ended_means : (e : Unfolded) (p : ℕ) → (ended marks e p ≡ true) ↔ CanEnd (λ q. flag marks q ≡ true) e p
  ended_means empty p = ((λ t. absurd (cc)), (λ c. absurd c.2))
  ended_means (leaf b) p = ((λ t. (p, t, refl)), (λ c. subst (λ q. flag marks q ≡ true) c.2 c.1))
  ended_means (cat a b) p =
      let x = ended_means a p in
      let y = ended_means b (p + position_count a) in (
        (λ t. (end_of_cat (λ q. flag marks q ≡ true) a b p).1 (elim (or_true (ended marks b (p + position_count a)) (ended marks a p && nullable b) t) [
          | inl u ↦ inl (y.0 u)
          | inr u ↦ let v = and_true (ended marks a p) (nullable b) u in inr (v.1, x.0 v.0)
        ])),
        (λ c. elim ((end_of_cat (λ q. flag marks q ≡ true) a b p).0 c) [
          | inl u ↦ or_left (ended marks b (p + position_count a)) (ended marks a p && nullable b) (y.1 u)
          | inr u ↦ or_right (ended marks b (p + position_count a)) (ended marks a p && nullable b) (both_true (ended marks a p) (nullable b) (x.1 u.1) u.0)
        ]),
      )
  ended_means (alt a b) p =
      let x = ended_means a p in
      let y = ended_means b (p + position_count a) in (
        (λ t. (end_of_alt (λ q. flag marks q ≡ true) a b p).1 (elim (or_true (ended marks a p) (ended marks b (p + position_count a)) t) [ inl u ↦ inl (x.0 u) | inr u ↦ inr (y.0 u) ])),
        (λ c. elim ((end_of_alt (λ q. flag marks q ≡ true) a b p).0 c) [
          | inl u ↦ or_left (ended marks a p) (ended marks b (p + position_count a)) (x.1 u)
          | inr u ↦ or_right (ended marks a p) (ended marks b (p + position_count a)) (y.1 u)
        ]),
      )
  ended_means (opt a) p = ended_means a p
  ended_means (plus a) p = ended_means a p

  pub reads_length : (e : Unfolded) (f : Bool) (p : ℕ) (reads : List Bool) → length (read_list marks e f p reads) ≡ length reads
  reads_length empty f p reads = refl
  reads_length (leaf b) f p reads = length_set reads p f
  reads_length (cat a b) f p reads =
      reads_length a f p (read_list marks b ((f && nullable a) || ended marks a p) (p + position_count a) reads)
      ∙ reads_length b ((f && nullable a) || ended marks a p) (p + position_count a) reads
  reads_length (alt a b) f p reads =
      reads_length a f p (read_list marks b f (p + position_count a) reads) ∙ reads_length b f (p + position_count a) reads
  reads_length (opt a) f p reads = reads_length a f p reads
  reads_length (plus a) f p reads = reads_length a (f || ended marks a p) p reads

  -- flags outside the expression's range stay
  pub reads_apart : (e : Unfolded) (f : Bool) (p : ℕ) (reads : List Bool) (q : ℕ) → (q < p) ⊎ (p + position_count e ≤ q) →
      flag (read_list marks e f p reads) q ≡ flag reads q
  reads_apart empty f p reads q h = refl
  reads_apart (leaf b) f p reads q h = flag_set_other reads p q f (elim h [ inl l ↦ (λ e. absurd (omega arith)) | inr l ↦ (λ e. absurd (omega arith)) ])
  reads_apart (cat a b) f p reads q h =
      let g = (f && nullable a) || ended marks a p in
      reads_apart a f p (read_list marks b g (p + position_count a) reads) q (elim h [ inl l ↦ inl l | inr l ↦ inr (omega arith) ])
      ∙ reads_apart b g (p + position_count a) reads q (elim h [ inl l ↦ inl (omega arith) | inr l ↦ inr (omega arith) ])
  reads_apart (alt a b) f p reads q h =
      reads_apart a f p (read_list marks b f (p + position_count a) reads) q (elim h [ inl l ↦ inl l | inr l ↦ inr (omega arith) ])
      ∙ reads_apart b f (p + position_count a) reads q (elim h [ inl l ↦ inl (omega arith) | inr l ↦ inr (omega arith) ])
  reads_apart (opt a) f p reads q h = reads_apart a f p reads q h
  reads_apart (plus a) f p reads q h = reads_apart a (f || ended marks a p) p reads q h

  -- the flags in its range determine the readable positions
  pub reads_mean : (e : Unfolded) (f : Bool) (p : ℕ) (reads : List Bool) (q : ℕ) → p + position_count e ≤ length reads → p ≤ q → q < p + position_count e →
      (flag (read_list marks e f p reads) q ≡ true) ↔ CanRead (λ r. flag marks r ≡ true) (f ≡ true) e p q
  reads_mean empty f p reads q long low high = absurd (omega arith)
  reads_mean (leaf b) f p reads q long low high =
      let same : q ≡ p = omega arith in
      let is : flag (slice_set reads p f) q ≡ f = ap (λ i. flag (slice_set reads p f) i) same ∙ flag_set_same reads p f (omega arith) in
      ((λ t. inl (sym is ∙ t, same)), (λ c. elim c [ inl x ↦ is ∙ x.0 | inr x ↦ absurd x.2 ]))
  reads_mean (cat a b) f p reads q long low high =
      let M : ℕ → Type 0 = λ r. flag marks r ≡ true in
      let k = p + position_count a in
      let g = (f && nullable a) || ended marks a p in
      let inner = read_list marks b g k reads in
      let len = reads_length b g k reads in
      let why : Type 0 = ((f ≡ true) × (nullable a ≡ true)) ⊎ CanEnd M a p in
      let into : g ≡ true → why = λ u. elim (or_true (f && nullable a) (ended marks a p) u) [
        | inl v ↦ inl (and_true f (nullable a) v)
        | inr v ↦ inr ((ended_means a p).0 v)
      ] in
      let from : why → g ≡ true = λ u. elim u [
        | inl v ↦ or_left (f && nullable a) (ended marks a p) (both_true f (nullable a) v.0 v.1)
        | inr v ↦ or_right (f && nullable a) (ended marks a p) ((ended_means a p).1 v)
      ] in
      elim (cases_lt q k) [
        | inl l ↦
            let x = reads_mean a f p inner q (omega arith) low l in (
              (λ t. (read_in_cat M a b p (f ≡ true) q).1 (inl (x.0 t))),
              (λ c. elim ((read_in_cat M a b p (f ≡ true) q).0 c) [
                | inl v ↦ x.1 v
                | inr v ↦ let r = in_read M why b k q v in absurd (omega arith)
              ]),
            )
        | inr l ↦
            let same = reads_apart a f p inner q (inr l) in
            let y = reads_mean b g k reads q (omega arith) l (omega arith) in (
              (λ t. (read_in_cat M a b p (f ≡ true) q).1 (inr (read_along M (g ≡ true) why into b k q (y.0 (sym same ∙ t))))),
              (λ c. elim ((read_in_cat M a b p (f ≡ true) q).0 c) [
                | inl v ↦ let r = in_read M (f ≡ true) a p q v in absurd (omega arith)
                | inr v ↦ same ∙ y.1 (read_along M why (g ≡ true) from b k q v)
              ]),
            )
      ]
  reads_mean (alt a b) f p reads q long low high =
      let M : ℕ → Type 0 = λ r. flag marks r ≡ true in
      let k = p + position_count a in
      let inner = read_list marks b f k reads in
      let len = reads_length b f k reads in
      elim (cases_lt q k) [
        | inl l ↦
            let x = reads_mean a f p inner q (omega arith) low l in (
              (λ t. (read_in_alt M a b p (f ≡ true) q).1 (inl (x.0 t))),
              (λ c. elim ((read_in_alt M a b p (f ≡ true) q).0 c) [
                | inl v ↦ x.1 v
                | inr v ↦ let r = in_read M (f ≡ true) b k q v in absurd (omega arith)
              ]),
            )
        | inr l ↦
            let same = reads_apart a f p inner q (inr l) in
            let y = reads_mean b f k reads q (omega arith) l (omega arith) in (
              (λ t. (read_in_alt M a b p (f ≡ true) q).1 (inr (y.0 (sym same ∙ t)))),
              (λ c. elim ((read_in_alt M a b p (f ≡ true) q).0 c) [
                | inl v ↦ let r = in_read M (f ≡ true) a p q v in absurd (omega arith)
                | inr v ↦ same ∙ y.1 v
              ]),
            )
      ]
  reads_mean (opt a) f p reads q long low high = reads_mean a f p reads q long low high
  reads_mean (plus a) f p reads q long low high =
      let M : ℕ → Type 0 = λ r. flag marks r ≡ true in
      let g = f || ended marks a p in
      let why : Type 0 = (f ≡ true) ⊎ CanEnd M a p in
      let into : g ≡ true → why = λ u. elim (or_true f (ended marks a p) u) [ inl v ↦ inl v | inr v ↦ inr ((ended_means a p).0 v) ] in
      let from : why → g ≡ true = λ u. elim u [ inl v ↦ or_left f (ended marks a p) v | inr v ↦ or_right f (ended marks a p) ((ended_means a p).1 v) ] in
      let x = reads_mean a g p reads q long low high in (
        (λ t. (read_in_plus M a a p (f ≡ true) q).1 (read_along M (g ≡ true) why into a p q (x.0 t))),
        (λ c. x.1 (read_along M why (g ≡ true) from a p q ((read_in_plus M a a p (f ≡ true) q).0 c))),
      )
