use Rattle.std.proofs.Common.{ℕ, ◌≡◌, ◌<◌, ◌≤◌, true, false, ◌&&◌, ◌||◌, nat_lt, nat_eq, is_some, List, Option, Some, None, refl, sym, ◌∙◌, ap, subst, arith}
use Rattle.std.specs.List.{list_any}
use Rattle.std.proofs.lemmas.Bool.{both_ways, or_right, and_parts, and_from, eqb-true, eq-eqb, ltb-true, lt-ltb, le-ltb, false_from_ne_true, ltb-false, or_parts}
use Rattle.lx_piece.specs.declared.piece.Piece.{Piece}
use Rattle.lx_piece.specs.declared.reply.Why.TheVariants.{AfterLast, Contradicts}
use Rattle.lx_piece.specs.Pieces.{is_closing, top_number}
use Rattle.lx_piece.specs.Arrivals.{closes_before, is_later, is_numbered, cause_among}
use Rattle.lx_piece.specs.Kept.{Buffered, BufferStandsFor, held_at, has_number, is_number, closed_before}
use Rattle.lx_piece.proofs.AnyOf.{same_tests, any_witness}

pub number_closes : (o : Option ℕ) (m n : ℕ) → is_number o m ≡ true → nat_lt m n ≡ true → closed_before o n ≡ true
number_closes None m n h l = absurd (both_ways false refl h)
number_closes (Some k) m n h l = ap (λ i. nat_lt i n) (eqb-true k m h) ∙ l

pub closing_number : (o : Option ℕ) (n : ℕ) → closed_before o n ≡ true → (m : ℕ) × (is_number o m ≡ true) × (nat_lt m n ≡ true)
closing_number None n h = absurd (both_ways false refl h)
closing_number (Some k) n h = (k, eq-eqb k k refl, h)

-- a file is closed before p if and only if its closing number is below p's
pub closed_alike : {C : Type 0} (buffer : Buffered C) (accepted : List (Piece C)) (p : Piece C) → BufferStandsFor buffer p.file accepted → list_any (closes_before p) accepted ≡ closed_before buffer.closing p.number
closed_alike buffer accepted p s =
    same_tests (list_any (closes_before p) accepted) (closed_before buffer.closing p.number)
    (λ h.
    let w = any_witness (closes_before p) accepted h in
    let q = w.0 in
    let a = and_parts (is_closing q) (nat_eq q.file p.file && nat_lt q.number p.number) w.1 in
    let b = and_parts (nat_eq q.file p.file) (nat_lt q.number p.number) a.1 in
    let there = w.2 (λ r. (is_closing r) && is_numbered p.file q.number r) (and_from (is_closing q) (is_numbered p.file q.number q) a.0 (and_from (nat_eq q.file p.file) (nat_eq q.number q.number) b.0 (eq-eqb q.number q.number refl))) in
    number_closes buffer.closing q.number p.number (sym (s.closing q.number) ∙ there) b.1)
    (λ h.
    let k = closing_number buffer.closing p.number h in
    let w = any_witness (λ r. (is_closing r) && is_numbered p.file k.0 r) accepted (s.closing k.0 ∙ k.1) in
    let q = w.0 in
    let a = and_parts (is_closing q) (is_numbered p.file k.0 q) w.1 in
    let b = and_parts (nat_eq q.file p.file) (nat_eq q.number k.0) a.1 in
    w.2 (closes_before p) (and_from (is_closing q) (nat_eq q.file p.file && nat_lt q.number p.number) a.0 (and_from (nat_eq q.file p.file) (nat_lt q.number p.number) b.0 (ap (λ i. nat_lt i p.number) (eqb-true q.number k.0 b.1) ∙ k.2))))

-- a later piece that was accepted is held, if p itself was not delivered
pub later_is_held : {C : Type 0} (buffer : Buffered C) (accepted : List (Piece C)) (p : Piece C) → BufferStandsFor buffer p.file accepted → buffer.next ≤ p.number → list_any (is_later p) accepted ≡ true → (m : ℕ) × (p.number < m) × (is_some (held_at buffer m) ≡ true)
later_is_held buffer accepted p s l h =
    let w = any_witness (is_later p) accepted h in
    let q = w.0 in
    let b = and_parts (nat_eq q.file p.file) (nat_lt p.number q.number) w.1 in
    let above : p.number < q.number = ltb-true p.number q.number b.1 in
    let there = w.2 (is_numbered p.file q.number) (and_from (nat_eq q.file p.file) (nat_eq q.number q.number) b.0 (eq-eqb q.number q.number refl)) in
    let beyond : nat_lt q.number buffer.next ≡ false = le-ltb q.number buffer.next (omega arith) in
    (q.number, above, subst (λ t. (t || is_some (held_at buffer q.number)) ≡ true) beyond (sym (s.numbers q.number) ∙ there))

pub held_is_later : {C : Type 0} (buffer : Buffered C) (accepted : List (Piece C)) (p : Piece C) (m : ℕ) → BufferStandsFor buffer p.file accepted → p.number < m → is_some (held_at buffer m) ≡ true → list_any (is_later p) accepted ≡ true
held_is_later buffer accepted p m s l h =
    let w = any_witness (is_numbered p.file m) accepted (s.numbers m ∙ or_right (nat_lt m buffer.next) (is_some (held_at buffer m)) h) in
    let q = w.0 in
    let b = and_parts (nat_eq q.file p.file) (nat_eq q.number m) w.1 in
    w.2 (is_later p) (and_from (nat_eq q.file p.file) (nat_lt p.number q.number) b.0 (ap (λ i. nat_lt p.number i) (eqb-true q.number m b.1) ∙ lt-ltb p.number m l))

-- the causes against a piece that is no duplicate, by the buffer's contents
pub refused_after_last : {C : Type 0} (buffer : Buffered C) (accepted : List (Piece C)) (p : Piece C) → BufferStandsFor buffer p.file accepted → has_number buffer p.number ≡ false → (nat_eq p.number top_number || closed_before buffer.closing p.number) ≡ true → Some AfterLast ≡ cause_among accepted p
refused_after_last buffer accepted p s h e =
    let d = s.numbers p.number ∙ h in
    let f = ap (λ t. nat_eq p.number top_number || t) (closed_alike buffer accepted p s) ∙ e in
    rw (d, f) refl

pub refused_contradicts : {C : Type 0} (buffer : Buffered C) (accepted : List (Piece C)) (p : Piece C) → BufferStandsFor buffer p.file accepted → has_number buffer p.number ≡ false → (nat_eq p.number top_number || closed_before buffer.closing p.number) ≡ false → (is_closing p) ≡ true → (m : ℕ) × (p.number < m) × (is_some (held_at buffer m) ≡ true) → Some Contradicts ≡ cause_among accepted p
refused_contradicts buffer accepted p s h e last w =
    let d = s.numbers p.number ∙ h in
    let f = ap (λ t. nat_eq p.number top_number || t) (closed_alike buffer accepted p s) ∙ e in
    let g = and_from (is_closing p) (list_any (is_later p) accepted) last (held_is_later buffer accepted p w.0 s w.1 w.2) in
    rw (d, f, g) refl

pub not_refused : {C : Type 0} (buffer : Buffered C) (accepted : List (Piece C)) (p : Piece C) → BufferStandsFor buffer p.file accepted → has_number buffer p.number ≡ false → (nat_eq p.number top_number || closed_before buffer.closing p.number) ≡ false → ((is_closing p) ≡ true → (m : ℕ) → p.number < m → held_at buffer m ≡ None) → None ≡ cause_among accepted p
not_refused buffer accepted p s h e n =
    let d = s.numbers p.number ∙ h in
    let f = ap (λ t. nat_eq p.number top_number || t) (closed_alike buffer accepted p s) ∙ e in
    let g : ((is_closing p) && list_any (is_later p) accepted) ≡ false = false_from_ne_true ((is_closing p) && list_any (is_later p) accepted) (λ t.
    let a = and_parts (is_closing p) (list_any (is_later p) accepted) t in
    let w = later_is_held buffer accepted p s (ltb-false p.number buffer.next (or_parts (nat_lt p.number buffer.next) (is_some (held_at buffer p.number)) h).0) a.1 in
    both_ways (is_some (held_at buffer w.0)) (ap is_some (n a.0 w.0 w.1)) w.2) in
    rw (d, f, g) refl
