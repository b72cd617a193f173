-- `escape_at` finds exactly the spellings at the start of the text.
use Rattle.std.proofs.Common.{◌≡◌, ℕ, zero, suc, ◌<◌, ◌≤◌, inl, inr, Bool, true, false, nat_eq, nat_lt, cond, List, [], ◌∷◌, ◌++◌, length, take, drop, Option, Some, None, refl, sym, ap, ◌∙◌, arith, length-append}
use Rattle.std.specs.List.{list_all}
use Rattle.std.specs.Option.{option_map}
use Rattle.std.proofs.lemmas.Grind.{common_steps}
use Rattle.std.proofs.lemmas.Bool.{cases_lt, ltb-true, eqb-true, eqb-false}
use Rattle.std.proofs.lemmas.Bool.Decides.{nat_tests}
use Rattle.lx_ere.specs.Escapes.{is_digit, number_of, NoneFirst, letter_byte, Escape, letter, octal, hexadecimal, only_x, itself}
use Rattle.lx_ere.specs.Lexing.{run_len, byte_of, number_at, hexadecimal_at, letter_or_other, escape_at}
use Rattle.lx_ere.specs.ChoiceLaws.{pick_first, pick_second, eq_other}
use Rattle.lx_ere.proofs.RunLemmas.{run_len-append, take_prefix, drop_prefix, IsRun, run_is, take_len, rejoin, run_positive}

byte_of_small : (base : ℕ) (digits : List ℕ) → number_of base digits < 256 → byte_of base digits ≡ Some (number_of base digits)
byte_of_small base digits h = grind (arith, nat_tests)

pub number_follows_mark : (base : ℕ) (digits behind : List ℕ) → number_of base digits < 256 → number_at base (length digits) (digits ++ behind) ≡ Some (number_of base digits, behind)
number_follows_mark base digits behind h = rw (take_prefix digits behind, drop_prefix digits behind, byte_of_small base digits h) refl

octal_low : (c : ℕ) → is_digit 8 c ≡ true → 48 ≤ c
octal_low c h = grind (arith, nat_tests)

octal_high : (c : ℕ) → is_digit 8 c ≡ true → c < 56
octal_high c h = grind (arith, nat_tests)

run_prefix : (base n : ℕ) (digits behind : List ℕ) → list_all (is_digit base) digits ≡ true → length digits ≤ n → (length digits < n → NoneFirst (is_digit base) behind) → number_of base digits < 256 →
    number_at base (run_len (is_digit base) n (digits ++ behind)) (digits ++ behind) ≡ Some (number_of base digits, behind)
run_prefix base n digits behind all le ends small = rw (run_len-append (is_digit base) n digits behind all le ends) (number_follows_mark base digits behind small)

hexadecimal_prefix : (n : ℕ) (digits behind : List ℕ) → 0 < length digits → list_all (is_digit 16) digits ≡ true → length digits ≤ n → NoneFirst (is_digit 16) behind → number_of 16 digits < 256 →
    hexadecimal_at (run_len (is_digit 16) n (digits ++ behind)) (digits ++ behind) ≡ Some (number_of 16 digits, behind)
hexadecimal_prefix n [] behind some all le ends small = absurd (omega (arith, some))
hexadecimal_prefix n (d ∷ digits) behind some all le ends small =
    rw (run_len-append (is_digit 16) n (d ∷ digits) behind all le (λ _. ends)) (pick_second (nat_eq (length (d ∷ digits)) 0) _ _ (eq_other (length (d ∷ digits)) 0 (λ e. omega (arith, e, some))) ∙ number_follows_mark 16 (d ∷ digits) behind small)

-- an octal digit is one of 48 to 55
octal_is : (c : ℕ) → is_digit 8 c ≡ true → (48 ≤ c) × (c < 56)
octal_is c h = (octal_low c h, octal_high c h)

-- so it isn't a letter
octal_no_letter : (c : ℕ) → is_digit 8 c ≡ true → letter_byte c ≡ None
octal_no_letter c h = let range = octal_is c h in grind (arith, nat_tests)

head_digit : (base : ℕ) (d : ℕ) (digits : List ℕ) → list_all (is_digit base) (d ∷ digits) ≡ true → is_digit base d ≡ true
head_digit base d digits all = grind (arith, nat_tests, common_steps)

pub record EscapeAt (text : List ℕ) (byte : ℕ) (behind : List ℕ) : Type 0 where
  pub rest : List ℕ
  pub slash : text ≡ 92 ∷ rest
  pub found : escape_at (rest ++ behind) ≡ Some (byte, behind)

positive_length : (base c : ℕ) (v : List ℕ) → NoneFirst (is_digit base) v → run_len (is_digit base) (length v) v ≡ 0
positive_length base c [] h = refl
positive_length base c (d ∷ v) h = rw h refl

pub escape_complete : (text : List ℕ) (byte : ℕ) (behind : List ℕ) → Escape text byte behind → EscapeAt text byte behind
escape_complete _ _ _ (letter c byte behind e) = record { rest = c ∷ []; slash = refl; found = rw e refl }
escape_complete _ _ _ (octal [] behind some few all ends small) = absurd (omega (arith, some))
escape_complete _ _ _ (octal (d ∷ digits) behind some few all ends small) =
    let first = head_digit 8 d digits all in
    record {
      rest = d ∷ digits;
      slash = refl;
      found = rw (octal_no_letter d first) (pick_first (is_digit 8 d) _ _ first ∙ run_prefix 8 3 (d ∷ digits) behind all few ends small);
    }
escape_complete _ _ _ (hexadecimal [] behind some all ends small) = absurd (omega (arith, some))
escape_complete _ _ _ (hexadecimal (d ∷ digits) behind some all ends small) =
    let long : length (d ∷ digits) ≤ length ((d ∷ digits) ++ behind) = omega (arith, length-append (d ∷ digits) behind) in
    record {
      rest = 120 ∷ d ∷ digits;
      slash = refl;
      found = hexadecimal_prefix (length ((d ∷ digits) ++ behind)) (d ∷ digits) behind some all long ends small;
    }
escape_complete _ _ _ (only_x behind ends) = record { rest = 120 ∷ []; slash = refl; found = rw (positive_length 16 0 behind ends) refl }
escape_complete _ _ _ (itself c behind no_letter no_octal no_x no_newline) = record {
  rest = c ∷ [];
  slash = refl;
  found = rw no_letter (rw no_octal (rw (eq_other c 120 no_x) (rw (eq_other c 10 no_newline) refl)));
}

pub record NumberAt (base n : ℕ) (text : List ℕ) (byte : ℕ) (behind : List ℕ) : Type 0 where
  pub small : number_of base (take n text) < 256
  pub byte_is : number_of base (take n text) ≡ byte
  pub behind_is : drop n text ≡ behind

pub number_at_is : (base n : ℕ) (text : List ℕ) (byte : ℕ) (behind : List ℕ) → number_at base n text ≡ Some (byte, behind) → NumberAt base n text byte behind
number_at_is base n text byte behind e = go (nat_lt (number_of base (take n text)) 256) refl e
  where
    go : (b : Bool) → nat_lt (number_of base (take n text)) 256 ≡ b → option_map {U = ℕ × List ℕ} (λ byte. (byte, drop n text)) (cond b (Some (number_of base (take n text))) None) ≡ Some (byte, behind) → NumberAt base n text byte behind
    go true eb e =
        let f : ◌≡◌ {A = Option (ℕ × List ℕ)} (Some (number_of base (take n text), drop n text)) (Some (byte, behind)) = e in
        let pair : ◌≡◌ {A = ℕ × List ℕ} (number_of base (take n text), drop n text) (byte, behind) = cc in
        record { small = ltb-true (number_of base (take n text)) 256 eb; byte_is = ap (λ p. p.0) pair; behind_is = ap (λ p. p.1) pair }
    go false eb e = absurd (let f : ◌≡◌ {A = Option (ℕ × List ℕ)} None (Some (byte, behind)) = e in cc)

-- a front of the text is an escape's rest
pub record IsEscapePrefix (text : List ℕ) (byte : ℕ) (behind : List ℕ) : Type 0 where
  pub rest : List ℕ
  pub spelled : Escape (92 ∷ rest) byte behind
  pub joins : text ≡ rest ++ behind

octal_prefix : (n : ℕ) (text : List ℕ) (byte : ℕ) (behind : List ℕ) → run_len (is_digit 8) 3 text ≡ n → 0 < n → number_at 8 n text ≡ Some (byte, behind) → IsEscapePrefix text byte behind
octal_prefix n text byte behind en some e =
    let i : IsRun (is_digit 8) 3 text = run_is (is_digit 8) 3 text in
    let a = number_at_is 8 n text byte behind e in
    let within : n ≤ length text = rw (← en) i.within in
    let few : n ≤ 3 = rw (← en) i.few in
    let len : length (take n text) ≡ n = take_len n text within in
    let all : list_all (is_digit 8) (take n text) ≡ true = rw (← en) i.passes in
    let ends : n < 3 → NoneFirst (is_digit 8) (drop n text) = rw (← en) i.ends in
    record {
      rest = take n text;
      spelled = rw (← a.byte_is, ← a.behind_is) (octal (take n text) (drop n text) (omega (arith, len)) (omega (arith, len)) all (λ lt. ends (omega (arith, len, lt))) a.small);
      joins = rw (← a.behind_is) (rejoin n text);
    }

hexadecimal_found : (n : ℕ) (text : List ℕ) (byte : ℕ) (behind : List ℕ) → run_len (is_digit 16) (length text) text ≡ n → hexadecimal_at n text ≡ Some (byte, behind) → IsEscapePrefix (120 ∷ text) byte behind
hexadecimal_found zero text byte behind en e =
    let i : IsRun (is_digit 16) (length text) text = run_is (is_digit 16) (length text) text in
    let f : ◌≡◌ {A = Option (ℕ × List ℕ)} (Some (120, text)) (Some (byte, behind)) = e in
    let pair : ◌≡◌ {A = ℕ × List ℕ} (120, text) (byte, behind) = cc in
    let b : 120 ≡ byte = ap (λ p. p.0) pair in
    let v : text ≡ behind = ap (λ p. p.1) pair in
    record { rest = 120 ∷ []; spelled = rw (← b, ← v) (only_x text (no_digit text (rw en at i.ends))); joins = ap (λ x. 120 ∷ x) v }
  where
    no_digit : (text : List ℕ) → (0 < length text → NoneFirst (is_digit 16) text) → NoneFirst (is_digit 16) text
    no_digit [] h = tt
    no_digit (c ∷ text) h = h (omega arith)
hexadecimal_found (suc m) text byte behind en e =
    let i : IsRun (is_digit 16) (length text) text = run_is (is_digit 16) (length text) text in
    let n : ℕ = suc m in
    let a = number_at_is 16 n text byte behind (sym (pick_second (nat_eq (suc m) 0) _ _ (eq_other (suc m) 0 (λ z. omega (arith, z)))) ∙ e) in
    let within : n ≤ length text = rw (← en) i.within in
    let len : length (take n text) ≡ n = take_len n text within in
    let all : list_all (is_digit 16) (take n text) ≡ true = rw (← en) i.passes in
    let ends : n < length text → NoneFirst (is_digit 16) (drop n text) = rw (← en) i.ends in
    record {
      rest = 120 ∷ take n text;
      spelled = rw (← a.byte_is, ← a.behind_is) (hexadecimal (take n text) (drop n text) (omega (arith, len)) all (at_end n text within ends) a.small);
      joins = rw (← a.behind_is) (ap (λ x. 120 ∷ x) (rejoin n text));
    }
  where
    at_end : (n : ℕ) (text : List ℕ) → n ≤ length text → (n < length text → NoneFirst (is_digit 16) (drop n text)) → NoneFirst (is_digit 16) (drop n text)
    at_end n text within ends = elim (cases_lt n (length text)) [ inl lt ↦ ends lt | inr ge ↦ let none : drop n text ≡ [] = grind (arith, common_steps) in rw none tt ]

pub escape_sound : (text : List ℕ) (byte : ℕ) (behind : List ℕ) → escape_at text ≡ Some (byte, behind) → IsEscapePrefix text byte behind
escape_sound [] byte behind e = absurd (let f : ◌≡◌ {A = Option (ℕ × List ℕ)} None (Some (byte, behind)) = e in cc)
escape_sound (c ∷ text) byte behind e = by_letter (letter_byte c) refl e
  where
    Found : Type 0
    Found = IsEscapePrefix (c ∷ text) byte behind

    exact : (b : ℕ) (v : List ℕ) → ◌≡◌ {A = Option (ℕ × List ℕ)} (Some (b, v)) (Some (byte, behind)) → (b ≡ byte) × (v ≡ behind)
    exact b v e = let pair : ◌≡◌ {A = ℕ × List ℕ} (b, v) (byte, behind) = cc in (ap (λ p. p.0) pair, ap (λ p. p.1) pair)

    by_newline : (b : Bool) → nat_eq c 10 ≡ b → letter_byte c ≡ None → is_digit 8 c ≡ false → nat_eq c 120 ≡ false → cond {A = Option (ℕ × List ℕ)} b None (Some (c, text)) ≡ Some (byte, behind) → IsEscapePrefix (c ∷ text) byte behind
    by_newline true eb el ed ex e = absurd (let f : ◌≡◌ {A = Option (ℕ × List ℕ)} None (Some (byte, behind)) = e in cc)
    by_newline false eb el ed ex e =
        let p = exact c text e in
        record { rest = c ∷ []; spelled = rw (← p.0, ← p.1) (itself c text el ed (eqb-false c 120 ex) (eqb-false c 10 eb)); joins = ap (λ x. c ∷ x) p.1 }

    by_x : (b : Bool) → nat_eq c 120 ≡ b → letter_byte c ≡ None → is_digit 8 c ≡ false → cond {A = Option (ℕ × List ℕ)} b (hexadecimal_at (run_len (is_digit 16) (length text) text) text) (cond {A = Option (ℕ × List ℕ)} (nat_eq c 10) None (Some (c, text))) ≡ Some (byte, behind) → IsEscapePrefix (c ∷ text) byte behind
    by_x true eb el ed e = let is_x : c ≡ 120 = eqb-true c 120 eb in rw is_x (hexadecimal_found (run_len (is_digit 16) (length text) text) text byte behind refl e)
    by_x false eb el ed e = by_newline (nat_eq c 10) refl el ed eb e

    by_octal : (b : Bool) → is_digit 8 c ≡ b → letter_byte c ≡ None →
        cond {A = Option (ℕ × List ℕ)} b (number_at 8 (run_len (is_digit 8) 3 (c ∷ text)) (c ∷ text)) (cond {A = Option (ℕ × List ℕ)} (nat_eq c 120) (hexadecimal_at (run_len (is_digit 16) (length text) text) text) (cond {A = Option (ℕ × List ℕ)} (nat_eq c 10) None (Some (c, text)))) ≡ Some (byte, behind) → IsEscapePrefix (c ∷ text) byte behind
    by_octal true eb el e = octal_prefix (run_len (is_digit 8) 3 (c ∷ text)) (c ∷ text) byte behind refl (run_positive (is_digit 8) 2 c text eb) e
    by_octal false eb el e = by_x (nat_eq c 120) refl el eb e

    by_letter : (o : Option ℕ) → letter_byte c ≡ o → letter_or_other o c text ≡ Some (byte, behind) → IsEscapePrefix (c ∷ text) byte behind
    by_letter (Some b) eo e = let p = exact b text e in record { rest = c ∷ []; spelled = rw (← p.0, ← p.1) (letter c b text eo); joins = ap (λ x. c ∷ x) p.1 }
    by_letter None eo e = by_octal (is_digit 8 c) refl eo e
