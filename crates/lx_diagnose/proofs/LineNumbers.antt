-- A position is in the line after the newlines before it.
use Rattle.std.proofs.Common.{ℕ, zero, suc, ◌≡◌, ◌+◌, ◌-◌, ◌<◌, ◌≤◌, Bool, true, false, not, cond, List, [], ◌∷◌, length, take, drop, min, refl, sym, ◌∙◌, subst, arith, length-drop}
use Rattle.std.proofs.lemmas.List.Recursion.{is_count_by}
use Rattle.std.specs.List.{prefix_len, count_by}
use Rattle.lx_diagnose.specs.declared.places.TextPlace.{TextPlace}
use Rattle.lx_diagnose.specs.Places.{IsPlaceOf, is_newline, is_no_newline, newlines, behind_line, behind_lines, line_len, line_start}

abbrev count : List ℕ → ℕ
count [] = 0
count (c ∷ text) = cond (is_newline c) (1 + count text) (count text)

counted : (text : List ℕ) → count text ≡ newlines text
counted = is_count_by count is_newline refl (λ c text. refl)

begun : (b : Bool) (m k p : ℕ) → cond b (1 + m) m ≡ 0 → (m ≡ 0 → k ≤ p) → suc k ≤ cond (not b) (1 + p) 0
begun true m k p h f = absurd (omega (arith, h))
begun false m k p h f = let l = f h in omega (arith, l)

in_first_line : (text : List ℕ) (at : ℕ) → at ≤ length text → count (take at text) ≡ 0 → at ≤ prefix_len is_no_newline text
in_first_line [] at l h = omega (arith, l)
in_first_line (c ∷ text) zero l h = omega arith
in_first_line (c ∷ text) (suc k) l h = begun (is_newline c) (count (take k text)) k (prefix_len is_no_newline text) h (in_first_line text k (omega (arith, l)))

-- the rest of a position after a line of this many bytes
abbrev Left : ℕ → List ℕ → ℕ → ℕ → Type 0
Left p text at n = (rest : ℕ) × (at ≡ p + 1 + rest) × (count (take rest (drop (p + 1) text)) ≡ n)

drop_cons : (i j c : ℕ) (text : List ℕ) → j ≡ suc i → drop j (c ∷ text) ≡ drop i text
drop_cons i j c text e = subst (λ k. drop k (c ∷ text) ≡ drop i text) (sym e) refl

left_by : (b : Bool) (c : ℕ) (text : List ℕ) (k n : ℕ) → (count (take k text) ≡ suc n → Left (prefix_len is_no_newline text) text k n) → cond b (1 + count (take k text)) (count (take k text)) ≡ suc n → Left (cond (not b) (1 + prefix_len is_no_newline text) 0) (c ∷ text) (suc k) n
left_by true c text k n f h =
    (k, omega arith, subst (λ t. count (take k t) ≡ n) (sym (drop_cons 0 (0 + 1) c text (omega arith))) (omega (arith, h)))
left_by false c text k n f h =
    let s = f h in
    let p = prefix_len is_no_newline text in
    (s.0, (let e = s.1 in omega (arith, e)), subst (λ t. count (take (s.0) t) ≡ n) (sym (drop_cons (p + 1) ((1 + p) + 1) c text (omega arith))) (s.2))

left_of : (text : List ℕ) (at n : ℕ) → count (take at text) ≡ suc n → Left (prefix_len is_no_newline text) text at n
left_of [] zero n h = absurd (omega (arith, h))
left_of [] (suc k) n h = absurd (omega (arith, h))
left_of (c ∷ text) zero n h = absurd (omega (arith, h))
left_of (c ∷ text) (suc k) n h = left_by (is_newline c) c text k n (left_of text k n) h

-- a position in the line that begins where this many bytes are left, of which the line has some
record IsIn (whole left len at : ℕ) : Type 0 where
  within : left ≤ whole
  from : whole ≤ at + left
  to : at + left ≤ whole + len

later : (whole whole' left len at rest p : ℕ) → at ≡ p + 1 + rest → at < whole → whole' ≡ whole - (p + 1) → IsIn whole' left len rest → IsIn whole left len at
later whole whole' left len at rest p e l w i =
    let a = i.within in let b = i.from in let c = i.to in
    record { within = omega (arith, e, l, w, a); from = omega (arith, e, l, w, b); to = omega (arith, e, l, w, c) }

is_in : (n : ℕ) (text : List ℕ) (at : ℕ) → at < length text → count (take at text) ≡ n → IsIn (length text) (length (behind_lines n text)) (prefix_len is_no_newline (behind_lines n text)) at
unfolding behind_lines
is_in zero text at l h =
    let p = in_first_line text at (omega (arith, l)) h in
    record { within = omega arith; from = omega arith; to = omega (arith, p) }
is_in (suc n) text at l h =
    let p = prefix_len is_no_newline text in
    let s = left_of text at n h in
    let e = s.1 in
    let whole' = length-drop (p + 1) text in
    later (length text) (length (behind_line text)) _ _ at (s.0) p e l whole' (is_in n (behind_line text) (s.0) (omega (arith, e, l, whole')) (s.2))

pub record InLine (text : List ℕ) (at line : ℕ) : Type 0 where
  pub last : line ≤ length text
  pub begins : line_start line text ≤ at
  pub ends : at ≤ line_start line text + line_len line text

fewer : (text : List ℕ) (at : ℕ) → count (take at text) ≤ at
fewer [] zero = omega arith
fewer [] (suc k) = omega arith
fewer (c ∷ text) zero = omega arith
fewer (c ∷ text) (suc k) = by (is_newline c) (count (take k text)) (fewer text k) where
  by : (b : Bool) (m : ℕ) → m ≤ k → cond b (1 + m) m ≤ suc k
  by true m l = omega (arith, l)
  by false m l = omega (arith, l)

numbers : (text : List ℕ) (at n line : ℕ) → at < length text → line - 1 ≡ n → line ≤ length text → IsIn (length text) (length (behind_lines n text)) (prefix_len is_no_newline (behind_lines n text)) at → InLine text at line
numbers text at n line l e last i =
    let j = subst (λ k. IsIn (length text) (length (behind_lines k text)) (prefix_len is_no_newline (behind_lines k text)) at) (sym e) i in
    let a = j.within in let b = j.from in let c = j.to in
    record { last = last; begins = omega (arith, a, b); ends = omega (arith, a, b, c) }

pub in_own_line : (text : List ℕ) (at line : ℕ) → at < length text → line ≡ newlines (take at text) + 1 → InLine text at line
in_own_line text at line l e =
    let same = counted (take at text) in
    let few = fewer text at in
    numbers text at (count (take at text)) line l (omega (arith, e, same)) (omega (arith, e, same, few, l)) (is_in (count (take at text)) text at l refl)

pub is_place : (text : List ℕ) (from len line : ℕ) (place : TextPlace) → place.start ≡ from → place.line ≡ line → line ≡ min (newlines (take from text) + 1) 4294967295 → (0 < line → line ≤ length text → line_start line text ≤ from → from ≤ line_start line text + line_len line text → 0 < place.column) → (0 < place.column → place.width ≡ min len (line_len line text + 1 - place.column)) → IsPlaceOf text from len place
is_place text from len line place s same e k w = record {
  start = s;
  line = same ∙ e;
  known = λ l few. let own = in_own_line text from line l (omega (arith, e, few)) in k (omega (arith, e)) own.last own.begins own.ends;
  width = λ p. subst (λ n. place.width ≡ min len (line_len n text + 1 - place.column)) (sym same) (w p);
}
