use Rattle.std.proofs.Common.{ℕ, ◌≡◌, ◌+◌, Bool, true, false, ◌&&◌, ◌||◌, nat_lt, nat_eq, is_some, List, [], ◌∷◌, ◌++◌, Option, Some, None, inl, inr, refl, sym, ◌∙◌, ap, subst, arith}
use Rattle.std.specs.Prelude.{if◌then◌else◌, Contains}
use Rattle.std.specs.List.{list_any}
use Rattle.std.proofs.lemmas.Bool.{both_ways, or_left, or_right, or_from, and_parts, and_from, and_left, and_right, eqb-true, eq-eqb, ne_eqb, ltb-true, lt-ltb, cases_eq, cases_order, cases_Bool, or_parts, false_from_ne_true}
use Rattle.std.proofs.lemmas.List.Elements.{Contains-append_left, Contains-append_right}
use Rattle.lx_piece.specs.declared.piece.Piece.{Piece}
use Rattle.lx_piece.specs.declared.reply.Why.TheVariants.{Double, AfterLast, Contradicts}
use Rattle.lx_piece.specs.declared.piece.Mark.{Mark}
use Rattle.lx_piece.specs.declared.piece.Mark.TheVariants.{More, Whole, Cut}
use Rattle.lx_piece.specs.Pieces.{is_closing, is_closing_mark, is_cut_mark, is_cut_short, top_number}
use Rattle.lx_piece.specs.Arrivals.{has_piece, has_closing, has_truncated, closes_before, is_later, is_numbered, cause_among}
use Rattle.lx_piece.specs.Kept.{Buffered, BufferStandsFor, KeepsPiece, Advances, is_ready, held_at, is_number}
use Rattle.lx_piece.proofs.AnyOf.{same_tests, any_witness, any_last, choice_none, or_none}

-- the facts that hold if there is no cause against p
pub record NoCause {C : Type 0} (accepted : List (Piece C)) (p : Piece C) : Type 0 where
  pub new : has_piece p.file p.number accepted ≡ false
  pub countable : nat_eq p.number top_number ≡ false
  pub before_closing : list_any (closes_before p) accepted ≡ false
  pub consistent : ((is_closing p) && list_any (is_later p) accepted) ≡ false

pub no_cause : {C : Type 0} (accepted : List (Piece C)) (p : Piece C) → None ≡ cause_among accepted p → NoCause accepted p
no_cause accepted p h =
    let a = choice_none (has_piece p.file p.number accepted) Double _ h in
    let b = choice_none (nat_eq p.number top_number || list_any (closes_before p) accepted) AfterLast _ a.1 in
    let c = choice_none ((is_closing p) && list_any (is_later p) accepted) Contradicts None b.1 in
    let d = or_parts (nat_eq p.number top_number) (list_any (closes_before p) accepted) b.0 in
    record { new = a.0; countable = d.0; before_closing = d.1; consistent = c.0 }

-- no other piece of the file with a mark that only last pieces have was accepted
no_other_marked : {C : Type 0} (test : Piece C → Bool) (accepted : List (Piece C)) (p : Piece C) (n : ℕ) → NoCause accepted p → ((q : Piece C) → test q ≡ true → is_closing q ≡ true) → is_closing p ≡ true → (p.number ≡ n → ⊥) →
    list_any (λ r. test r && is_numbered p.file n r) accepted ≡ false
no_other_marked test accepted p n none closes last other = false_from_ne_true (list_any (λ r. test r && is_numbered p.file n r) accepted) (λ h.
    let w = any_witness (λ r. test r && is_numbered p.file n r) accepted h in
    let q = w.0 in
    let a = and_parts (test q) (is_numbered p.file n q) w.1 in
    let b = and_parts (nat_eq q.file p.file) (nat_eq q.number n) a.1 in
    let same : q.number ≡ n = eqb-true q.number n b.1 in
    elim (cases_order q.number p.number) [
      | inl e ↦ other (sym e ∙ same)
      | inr o ↦ elim o [
        | inl lt ↦ both_ways (list_any (closes_before p) accepted) none.before_closing
            (w.2 (closes_before p) (and_from (is_closing q) (nat_eq q.file p.file && nat_lt q.number p.number) (closes q a.0) (and_from (nat_eq q.file p.file) (nat_lt q.number p.number) b.0 (lt-ltb q.number p.number lt))))
        | inr gt ↦ both_ways ((is_closing p) && list_any (is_later p) accepted) none.consistent
            (and_from (is_closing p) (list_any (is_later p) accepted) last (w.2 (is_later p) (and_from (nat_eq q.file p.file) (nat_lt p.number q.number) b.0 (lt-ltb p.number q.number gt))))
      ]
    ])

-- a piece that is marked Cut is a last one
truncated_closes : (mark : Mark) → is_cut_mark mark ≡ true → is_closing_mark mark ≡ true
truncated_closes More h = absurd (both_ways false refl h)
truncated_closes Whole h = absurd (both_ways false refl h)
truncated_closes Cut h = refl

-- The number of an accepted piece with a mark that only last pieces have, once p is accepted too.
kept_mark : {C : Type 0} (test : Piece C → Bool) (accepted : List (Piece C)) (p : Piece C) (old new : Option ℕ) (n : ℕ) → NoCause accepted p → ((q : Piece C) → test q ≡ true → is_closing q ≡ true) →
    new ≡ (if test p then Some p.number else old) → list_any (λ r. test r && is_numbered p.file n r) accepted ≡ is_number old n →
    list_any (λ r. test r && is_numbered p.file n r) (accepted ++ p ∷ []) ≡ is_number new n
kept_mark {C} test accepted p old new n clear closes is stands =
    let marked : Piece C → Bool = λ r. test r && is_numbered p.file n r in
    let more = any_last marked accepted p in
    elim (cases_Bool (test p)) [
      | inl has ↦
          let now : new ≡ Some p.number = is ∙ ap (λ b. if b then Some p.number else old) has in
          elim (cases_eq p.number n) [
            | inl e ↦
                more
                ∙ or_right (list_any marked accepted) (marked p) (and_from (test p) (is_numbered p.file n p) has (and_from (nat_eq p.file p.file) (nat_eq p.number n) (eq-eqb p.file p.file refl) (eq-eqb p.number n e)))
                ∙ sym (ap (λ o. is_number o n) now ∙ eq-eqb p.number n e)
            | inr d ↦
                more
                ∙ or_from (list_any marked accepted) (marked p) (no_other_marked test accepted p n clear closes (closes p has) d) (and_right (test p) (is_numbered p.file n p) (and_right (nat_eq p.file p.file) (nat_eq p.number n) (ne_eqb p.number n d)))
                ∙ sym (ap (λ o. is_number o n) now ∙ ne_eqb p.number n d)
          ]
      | inr hasnt ↦
          more
          ∙ or_none (list_any marked accepted) (marked p) (and_left (test p) (is_numbered p.file n p) hasnt)
          ∙ stands
          ∙ sym (ap (λ o. is_number o n) (is ∙ ap (λ b. if b then Some p.number else old) hasnt))
    ]

-- a buffer that keeps an accepted piece represents it too
pub kept_stands : {C : Type 0} (old new : Buffered C) (accepted : List (Piece C)) (p : Piece C) → BufferStandsFor old p.file accepted → KeepsPiece old p new → None ≡ cause_among accepted p → BufferStandsFor new p.file (accepted ++ p ∷ [])
kept_stands {C} old new accepted p s k none =
    let clear = no_cause accepted p none in
    record {
      numbers = λ n. elim (cases_eq n p.number) [
        | inl e ↦
            any_last (is_numbered p.file n) accepted p
            ∙ or_right (has_piece p.file n accepted) (is_numbered p.file n p) (and_from (nat_eq p.file p.file) (nat_eq p.number n) (eq-eqb p.file p.file refl) (eq-eqb p.number n (sym e)))
            ∙ sym (or_right (nat_lt n new.next) (is_some (held_at new n)) (ap is_some (k.held n ∙ ap (λ b. if b then Some p else held_at old n) (eq-eqb n p.number e))))
        | inr d ↦
            any_last (is_numbered p.file n) accepted p
            ∙ or_none (has_piece p.file n accepted) (is_numbered p.file n p) (and_right (nat_eq p.file p.file) (nat_eq p.number n) (ne_eqb p.number n (λ e. d (sym e))))
            ∙ s.numbers n
            ∙ sym (ap (λ (m : ℕ). nat_lt n m || is_some (held_at new n)) k.next ∙ ap (λ (o : Option (Piece C)). nat_lt n old.next || is_some o) (k.held n ∙ ap (λ b. if b then Some p else held_at old n) (ne_eqb n p.number d)))
      ];
      held = λ n q h. elim (cases_eq n p.number) [
        | inl e ↦
            let is : Some p ≡ Some q = sym (k.held n ∙ ap (λ b. if b then Some p else held_at old n) (eq-eqb n p.number e)) ∙ h in
            let same : p ≡ q = cc in
            (ap (λ (r : Piece C). r.file) (sym same), ap (λ (r : Piece C). r.number) (sym same) ∙ sym e, Contains-append_right accepted (p ∷ []) q (subst (λ r. Contains (p ∷ []) r) same (0, omega arith, refl)))
        | inr d ↦
            let was = s.held n q (sym (k.held n ∙ ap (λ b. if b then Some p else held_at old n) (ne_eqb n p.number d)) ∙ h) in
            (was.0, was.1, Contains-append_left accepted (p ∷ []) q was.2)
      ];
      closing = λ n. kept_mark is_closing accepted p old.closing new.closing n clear (λ q h. h) k.closing (s.closing n);
      truncated = λ n. kept_mark is_cut_short accepted p old.truncated new.truncated n clear (λ q. truncated_closes q.mark) k.truncated (s.truncated n);
    }

-- a piece of another file changes nothing for a buffer
pub other_stands : {C : Type 0} (buffer : Buffered C) (file : ℕ) (accepted : List (Piece C)) (p : Piece C) → BufferStandsFor buffer file accepted → (p.file ≡ file → ⊥) → BufferStandsFor buffer file (accepted ++ p ∷ [])
other_stands buffer file accepted p s other =
    let away : (n : ℕ) → is_numbered file n p ≡ false = λ n. and_left (nat_eq p.file file) (nat_eq p.number n) (ne_eqb p.file file other) in
    record {
      numbers = λ n. any_last (is_numbered file n) accepted p ∙ or_none (has_piece file n accepted) (is_numbered file n p) (away n) ∙ s.numbers n;
      held = λ n q h. let was = s.held n q h in (was.0, was.1, Contains-append_left accepted (p ∷ []) q was.2);
      closing = λ n. any_last (λ r. (is_closing r) && is_numbered file n r) accepted p ∙ or_none (has_closing file n accepted) ((is_closing p) && is_numbered file n p) (and_right (is_closing p) (is_numbered file n p) (away n)) ∙ s.closing n;
      truncated = λ n. any_last (λ r. is_cut_short r && is_numbered file n r) accepted p ∙ or_none (has_truncated file n accepted) (is_cut_short p && is_numbered file n p) (and_right (is_cut_short p) (is_numbered file n p) (away n)) ∙ s.truncated n;
    }

one_more : (n k : ℕ) → (n ≡ k → ⊥) → nat_lt n (k + 1) ≡ nat_lt n k
one_more n k d = same_tests (nat_lt n (k + 1)) (nat_lt n k) (λ h. let l = ltb-true n (k + 1) h in lt-ltb n k (omega arith)) (λ h. let l = ltb-true n k h in lt-ltb n (k + 1) (omega arith))

-- a buffer that delivered its next piece represents the same ones
pub advanced_stands : {C : Type 0} (old new : Buffered C) (file : ℕ) (accepted : List (Piece C)) → BufferStandsFor old file accepted → Advances old new → is_ready old ≡ true → BufferStandsFor new file accepted
advanced_stands {C} old new file accepted s m ready =
    record {
      numbers = λ n. s.numbers n ∙ elim (cases_eq n old.next) [
        | inl e ↦
            or_right (nat_lt n old.next) (is_some (held_at old n)) (ap (λ i. is_some (held_at old i)) e ∙ ready)
            ∙ sym (or_left (nat_lt n new.next) (is_some (held_at new n)) (lt-ltb n new.next (let f = m.next in omega arith)))
        | inr d ↦
            sym (ap (λ (i : ℕ). nat_lt n i || is_some (held_at new n)) m.next
            ∙ ap (λ b. b || is_some (held_at new n)) (one_more n old.next d)
            ∙ ap (λ (o : Option (Piece C)). nat_lt n old.next || is_some o) (m.held n ∙ ap (λ b. if b then None else held_at old n) (ne_eqb n old.next d)))
      ];
      held = λ n q h. elim (cases_eq n old.next) [
        | inl e ↦
            let gone : None ≡ Some q = sym (m.held n ∙ ap (λ b. if b then None else held_at old n) (eq-eqb n old.next e)) ∙ h in
            absurd (cc)
        | inr d ↦ s.held n q (sym (m.held n ∙ ap (λ b. if b then None else held_at old n) (ne_eqb n old.next d)) ∙ h)
      ];
      closing = λ n. s.closing n ∙ sym (ap (λ o. is_number o n) m.closing);
      truncated = λ n. s.truncated n ∙ sym (ap (λ o. is_number o n) m.truncated);
    }
