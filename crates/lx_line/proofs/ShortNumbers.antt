-- The digits of numbers by the table of short ones.
use Rattle.std.proofs.Common.{◌≡◌, ℕ, zero, suc, ◌+◌, ◌-◌, ◌*◌, ◌/◌, ◌%◌, ◌^◌, ◌<◌, ◌≤◌, Bool, true, false, cond, ltb, ◌&&◌, T, eqb, List, [], ◌∷◌, ◌++◌, length, take, drop, get_or, refl, sym, ap, ◌∙◌, inl, inr, subst, arith, eq-zero-or-pos, eqb→eq, length-append, take-take}
use Rattle.std.proofs.lemmas.Bool.{cases_lt, lt-ltb, ltb-true, ne_eqb}
use Rattle.std.proofs.lemmas.Fmt.{decimal_digit, decimal_step}
use Rattle.std.proofs.Math.Seq.{get_or-append_seam}
use Rattle.std.proofs.lemmas.List.{drop_more, get_or-take, length-take-le, take_at, take_more_set}
use Rattle.std.specs.Prelude.{slice_set}
use Rattle.std.specs.Fmt.{decimal}
use lib.Ieee.Fits.{and_l, and_r}
use Rattle.lx_line.specs.Decimals.{leading}
use Rattle.lx_line.specs.declared.decimals.TheConstants.{SHORT}

-- three bytes of a list at a place
record Three (xs : List ℕ) (i a b c : ℕ) : Type 0 where
  pub first : get_or xs i 0 ≡ a
  pub second : get_or xs (i + 1) 0 ≡ b
  pub third : get_or xs (i + 2) 0 ≡ c
  pub within : i + 3 ≤ length xs

-- all numbers below this one pass a test
abbrev all_pass : (ℕ → Bool) → ℕ → Bool
all_pass test zero = true
all_pass test (suc p) = test p && all_pass test p

below : (test : ℕ → Bool) (n p : ℕ) → T (all_pass test n) → p < n → T (test p)
below test zero p t h = absurd (omega arith)
below test (suc n) p t h =
    elim (eq-zero-or-pos (n - p)) [
      | inl z ↦ let e : p ≡ n = omega arith in subst (λ (k : ℕ). T (test k)) (sym e) (and_l (test n) (all_pass test n) t)
      | inr g ↦ below test n p (and_r (test n) (all_pass test n) t) (omega arith)
    ]

take_one : (n i : ℕ) (xs : List ℕ) → i < length xs → take (suc n) (drop i xs) ≡ get_or xs i 0 ∷ take n (drop (i + 1) xs)
take_one n i xs l = ap (take (suc n)) (drop_more xs i 0 l)

last_two : (xs : List ℕ) (i a b c : ℕ) → Three xs i a b c → take 2 (drop (i + 1) xs) ≡ b ∷ c ∷ []
last_two xs i a b c t =
    let within = t.within in
    let next : i + 1 + 1 ≡ i + 2 = omega arith in
    take_one 1 (i + 1) xs (omega arith)
    ∙ ap (λ (k : ℕ). get_or xs (i + 1) 0 ∷ take 1 (drop k xs)) next
    ∙ ap (λ (zs : List ℕ). get_or xs (i + 1) 0 ∷ zs) (take_one 0 (i + 2) xs (omega arith))
    ∙ ap (λ (x : ℕ). x ∷ get_or xs (i + 2) 0 ∷ []) t.second
    ∙ ap (λ (x : ℕ). b ∷ x ∷ []) t.third

first_two : (xs : List ℕ) (i a b c : ℕ) → Three xs i a b c → take 2 (drop i xs) ≡ a ∷ b ∷ []
first_two xs i a b c t =
    let within = t.within in
    take_one 1 i xs (omega arith)
    ∙ ap (λ (zs : List ℕ). get_or xs i 0 ∷ zs) (take_one 0 (i + 1) xs (omega arith))
    ∙ ap (λ (x : ℕ). x ∷ get_or xs (i + 1) 0 ∷ []) t.first
    ∙ ap (λ (x : ℕ). a ∷ x ∷ []) t.second

all_three : (xs : List ℕ) (i a b c : ℕ) → Three xs i a b c → take 3 (drop i xs) ≡ a ∷ b ∷ c ∷ []
all_three xs i a b c t =
    let within = t.within in
    take_one 2 i xs (omega arith)
    ∙ ap (λ (zs : List ℕ). get_or xs i 0 ∷ zs) (last_two xs i a b c t)
    ∙ ap (λ (x : ℕ). x ∷ b ∷ c ∷ []) t.first

-- the two digits of a number
decimal_two : (n : ℕ) → 10 ≤ n → n < 100 → decimal n ≡ (48 + n / 10) ∷ (48 + n % 10) ∷ []
decimal_two n lo hi = rw (decimal_step n lo (omega arith), decimal_digit (n / 10) (omega arith))

pub leading_some : (high : ℕ) → 0 < high → leading high ≡ decimal high
leading_some high h = rw (ne_eqb high 0 (λ e. absurd (omega arith)))

-- the entry of a number below 100 in the table of texts: its bytes and its length
abbrev is_short_by : Bool → ℕ → Bool
is_short_by one p =
    eqb (get_or SHORT (p * 4 + 3) 0) (cond one 2 3)
    && (eqb (get_or SHORT (p * 4) 0) (cond one (48 + p) (48 + p / 10))
    && (eqb (get_or SHORT (p * 4 + 1) 0) (cond one 32 (48 + p % 10)) && eqb (get_or SHORT (p * 4 + 2) 0) 32))

unfoldable is_short : ℕ → Bool
is_short p = is_short_by (ltb p 10) p

-- the entry of a number in the table of texts
pub record IsShort (p : ℕ) : Type 0 where
  pub few : get_or SHORT (p * 4 + 3) 0 ≤ 3
  pub text : take (get_or SHORT (p * 4 + 3) 0) (drop (p * 4) SHORT) ≡ decimal p ++ 32 ∷ []

short_parts : (one : Bool) (p : ℕ) → p < 100 → T (is_short_by one p) → (get_or SHORT (p * 4 + 3) 0 ≡ cond one 2 3) × Three SHORT (p * 4) (cond one (48 + p) (48 + p / 10)) (cond one 32 (48 + p % 10)) 32
short_parts one p h t =
    let rest = and_r (eqb (get_or SHORT (p * 4 + 3) 0) (cond one 2 3)) _ t in
    let more = and_r (eqb (get_or SHORT (p * 4) 0) (cond one (48 + p) (48 + p / 10))) _ rest in (
      eqb→eq _ _ (and_l _ _ t),
      record {
        first = eqb→eq _ _ (and_l _ _ rest);
        second = eqb→eq _ _ (and_l _ _ more);
        third = eqb→eq _ _ (and_r _ _ more);
        within = omega arith;
      },
    )

short_by : (one : Bool) (p : ℕ) → ltb p 10 ≡ one → p < 100 → T (is_short_by one p) → IsShort p
short_by true p e h t =
    let parts = short_parts true p h t in
    record {
      few = omega (arith, parts.0);
      text = ap (λ (n : ℕ). take n (drop (p * 4) SHORT)) parts.0 ∙ first_two SHORT (p * 4) (48 + p) 32 32 parts.1 ∙ ap (λ (ds : List ℕ). ds ++ 32 ∷ []) (sym (decimal_digit p (ltb-true p 10 e)));
    }
short_by false p e h t =
    let parts = short_parts false p h t in
    let two : 10 ≤ p = elim (cases_lt p 10) [
      | inl one ↦ absurd (cc (lt-ltb p 10 one, e))
      | inr two ↦ two
    ] in
    record {
      few = omega (arith, parts.0);
      text = ap (λ (n : ℕ). take n (drop (p * 4) SHORT)) parts.0 ∙ all_three SHORT (p * 4) (48 + p / 10) (48 + p % 10) 32 parts.1 ∙ ap (λ (ds : List ℕ). ds ++ 32 ∷ []) (sym (decimal_two p two h));
    }

pub short_at : (p : ℕ) → p < 100 → IsShort p
unfolding is_short
short_at p h = short_by (ltb p 10) p refl h (below is_short 100 p tt h)

-- digits that end at a place
pub kept_digits : (high end from : ℕ) (digits rest : List ℕ) → from + length (decimal high) ≡ end → drop from digits ≡ decimal high ++ rest → 0 < high → take (end - from) (drop from digits) ≡ leading high
kept_digits high end from digits rest start written some =
    ap (λ (ds : List ℕ). take (end - from) ds) written
    ∙ take_at (decimal high) rest (end - from) (omega arith)
    ∙ sym (leading_some high some)

-- the last of some digits, and those of the next number if only it changes
pub record LastDigit (front : List ℕ) (len high : ℕ) : Type 0 where
  pub some : 0 < high
  pub digit : get_or front (len - 1) 0 ≡ 48 + high % 10
  pub next : high % 10 < 9 → take len (slice_set front (len - 1) (48 + high % 10 + 1)) ≡ leading (high + 1)

some_high : (front : List ℕ) (len high : ℕ) → 0 < len → len ≤ length front → take len front ≡ leading high → 0 < high
some_high front len zero pos within is =
    let none : length (take len front) ≡ 0 = ap length is in
    let all = length-take-le len front within in
    absurd (omega arith)
some_high front len (suc high) pos within is = omega arith

last_by : (front : List ℕ) (m high last : ℕ) (before : List ℕ) → m + 1 ≤ length front → 0 < high → last ≡ 48 + high % 10 → take (m + 1) front ≡ before ++ last ∷ [] → (high % 10 < 9 → decimal (high + 1) ≡ before ++ (last + 1) ∷ []) → (get_or front m 0 ≡ last) × (high % 10 < 9 → take (m + 1) (slice_set front m (last + 1)) ≡ leading (high + 1))
last_by front m high last before within some is_last is next =
    let all = length-take-le (m + 1) front within in
    let both : length (take (m + 1) front) ≡ length (before ++ last ∷ []) = ap length is in
    let parts = length-append before (last ∷ []) in
    let same : m ≡ length before = omega arith in
    let front_is : take m front ≡ before = sym (take-take m (m + 1) front (omega arith)) ∙ ap (λ (xs : List ℕ). take m xs) is ∙ take_at before (last ∷ []) m (omega arith) in (
      sym (get_or-take (m + 1) front m 0 (omega arith)) ∙ ap (λ (xs : List ℕ). get_or xs m 0) is ∙ ap (λ (k : ℕ). get_or (before ++ last ∷ []) k 0) same ∙ get_or-append_seam before last [] 0,
      λ low. take_more_set front m (last + 1) (omega arith) ∙ ap (λ (xs : List ℕ). xs ++ (last + 1) ∷ []) front_is ∙ sym (next low) ∙ sym (leading_some (high + 1) (omega arith)),
    )

last_digit_by : (front : List ℕ) (len m high : ℕ) → len ≡ m + 1 → len ≤ length front → 0 < high → high < 2 ^ 60 → take (m + 1) front ≡ leading high → (get_or front m 0 ≡ 48 + high % 10) × (high % 10 < 9 → take (m + 1) (slice_set front m (48 + high % 10 + 1)) ≡ leading (high + 1))
last_digit_by front len m high long within some small is = elim (cases_lt high 10) [
  | inl one ↦
      let same : high ≡ high % 10 = omega arith in
      last_by front m high (48 + high % 10) [] (omega arith) some refl
      (is ∙ leading_some high some ∙ decimal_digit high one ∙ ap (λ (n : ℕ). (48 + n) ∷ []) same)
      (λ low. let more : 48 + (high + 1) ≡ 48 + high % 10 + 1 = omega arith in decimal_digit (high + 1) (omega arith) ∙ ap (λ (n : ℕ). n ∷ []) more)
  | inr two ↦
      last_by front m high (48 + high % 10) (decimal (high / 10)) (omega arith) some refl
      (is ∙ leading_some high some ∙ decimal_step high two (omega arith))
      (λ low.
      let same : (high + 1) / 10 ≡ high / 10 = omega arith in
      let more : 48 + (high + 1) % 10 ≡ 48 + high % 10 + 1 = omega arith in
      decimal_step (high + 1) (omega arith) (omega arith) ∙ ap (λ (n : ℕ). decimal n ++ (48 + (high + 1) % 10) ∷ []) same ∙ ap (λ (n : ℕ). decimal (high / 10) ++ n ∷ []) more)
]

pub last_digit : (front : List ℕ) (len high : ℕ) → 0 < len → len ≤ length front → high < 2 ^ 60 → take len front ≡ leading high → LastDigit front len high
last_digit front len high pos within small is =
    let long : len ≡ len - 1 + 1 = omega arith in
    let some = some_high front len high pos within is in
    let parts = last_digit_by front len (len - 1) high long within some small (ap (λ (k : ℕ). take k front) (sym long) ∙ is) in
    record {
      some = some;
      digit = parts.0;
      next = λ low. ap (λ (k : ℕ). take k (slice_set front (len - 1) (48 + high % 10 + 1))) long ∙ parts.1 low;
    }
