-- Numbers, starts and ranges that were written are read again.
use Rattle.std.proofs.Common.{ℕ, zero, suc, ◌≡◌, ◌<◌, ◌≤◌, ◌+◌, ◌*◌, ◌-◌, Bool, true, false, List, [], ◌∷◌, ◌++◌, length, refl, sym, ◌∙◌, ap, subst, arith, append_assoc, append-nil, rules}
use Rattle.std.specs.Prelude.{decimal, nat_lt, All, replicate, Option, Some, None, if◌then◌else◌}
use Rattle.std.specs.Str.{all_ascii_digits}
use Rattle.std.specs.Char.{is_ascii_digit}
use Rattle.std.proofs.lemmas.Str.Parse.{IsNumeralModel, numerals_by_fold}
use Rattle.std.proofs.lemmas.Fmt.{digits_decimal, digits_value-decimal}
use Rattle.std.proofs.lemmas.Bool.{and_parts, lt-ltb, eqb-true}
use Rattle.std.proofs.lemmas.List.{replicate-append-replicate}
use Rattle.std.proofs.lemmas.Grind.{replicate_next}
use Rattle.std.proofs.lemmas.List.Elements.{All-head, All-tail}
use Rattle.lx_tables.specs.Texts.{start_line, range_text, same_value, ranges_from}
use Rattle.lx_tables.specs.Readers.{read_digits, read_start, read_range, read_row, below, within}
use Rattle.lx_tables.specs.declared.version.Version.{Version}
use Rattle.lx_tables.specs.declared.version.Version.TheVariants.{First}
use Rattle.lx_tables.proofs.Onto.{put, run_then}

abbrev pub read_on : ℕ → List ℕ → ℕ
read_on n [] = n
read_on n (c ∷ cs) = read_on (10 * n + (c - 48)) cs

pub own : IsNumeralModel (λ ds. all_ascii_digits ds ≡ true) (read_on 0)
own = numerals_by_fold _ (search rules) read_on (search rules)

-- the text doesn't begin with a digit
abbrev pub NoDigit : List ℕ → Type 0
NoDigit [] = Unit {0}
NoDigit (b ∷ bs) = is_ascii_digit b ≡ false

pub rises : (n : ℕ) (ds : List ℕ) → n ≤ read_on n ds
rises n [] = omega arith
rises n (d ∷ ds) = omega (arith, rises (10 * n + (d - 48)) ds)

pub digits_read : (n : ℕ) (ds behind : List ℕ) → all_ascii_digits ds ≡ true → NoDigit behind → read_on n ds < 2147483648 → read_digits n (ds ++ behind) ≡ (read_on n ds, behind)
digits_read n [] [] d stop small = refl
digits_read n [] (b ∷ bs) d stop small = rw stop refl
digits_read n (c ∷ ds) behind d stop small =
    let parts = and_parts (is_ascii_digit c) (all_ascii_digits ds) d in
    let digit : is_ascii_digit c ≡ true = parts.0 in
    let low : nat_lt n 429496729 ≡ true = lt-ltb n 429496729 (omega (arith, rises (10 * n + (c - 48)) ds)) in
    rw (digit, low) (digits_read (10 * n + (c - 48)) ds behind parts.1 stop small)

pub number_read : (n : ℕ) (behind : List ℕ) → n < 2147483648 → NoDigit behind → read_digits 0 (decimal n ++ behind) ≡ (n, behind)
number_read n behind small stop =
    let value : read_on 0 (decimal n) ≡ n = digits_value-decimal own n (omega arith) in
    digits_read 0 (decimal n) behind (digits_decimal own n (omega arith)) stop (subst (λ (v : ℕ). v < 2147483648) (sym value) small) ∙ ap (λ (v : ℕ). (v, behind)) value

-- the text after a written number doesn't begin with a digit
pub start_read : (s : ℕ × ℕ) (behind : List ℕ) → s.0 < 2147483648 → s.1 < 2147483648 → read_start (start_line s ++ behind) ≡ (s, behind)
start_read s behind l0 l1 =
    let first : read_digits 0 (decimal s.0 ++ (32 ∷ (decimal s.1 ++ (10 ∷ behind)))) ≡ (s.0, 32 ∷ (decimal s.1 ++ (10 ∷ behind))) = number_read s.0 (32 ∷ (decimal s.1 ++ (10 ∷ behind))) l0 refl in
    let second : read_digits 0 (decimal s.1 ++ (10 ∷ behind)) ≡ (s.1, 10 ∷ behind) = number_read s.1 (10 ∷ behind) l1 refl in
    simp (append_assoc, first, second)

pub range_read : (low high value : ℕ) (behind : List ℕ) → low < 2147483648 → high < 2147483648 → value < 2147483648 → NoDigit behind →
    read_range (range_text low high (Some value) ++ behind) ≡ ((low, high + 1, value), behind)
range_read low high value behind l0 l1 l2 stop =
    let last : read_digits 0 (decimal value ++ behind) ≡ (value, behind) = number_read value behind l2 stop in
    let second : read_digits 0 (decimal high ++ (58 ∷ (decimal value ++ behind))) ≡ (high, 58 ∷ (decimal value ++ behind)) = number_read high (58 ∷ (decimal value ++ behind)) l1 refl in
    let first : read_digits 0 (decimal low ++ (45 ∷ (decimal high ++ (58 ∷ (decimal value ++ behind))))) ≡ (low, 45 ∷ (decimal high ++ (58 ∷ (decimal value ++ behind)))) = number_read low (45 ∷ (decimal high ++ (58 ∷ (decimal value ++ behind)))) l0 refl in
    simp (append_assoc, first, second, last)

-- a value is that of a state
abbrev pub IsSmall : Option ℕ → Type 0
IsSmall None = Unit {0}
IsSmall (Some n) = n < 16512

-- the result of reading a run, if it lies in the places that are left
pub run_is : (version : Version) (width most from low end v : ℕ) (text : List ℕ) → from ≤ low → low ≤ end → end ≤ width → v < 16512 →
    run_then version width most from ((low, end, v), text) ≡ put version width most from low end (Some v) text
run_is version width most from low end v text lf ll lw lv =
    let first : within from width low ≡ low = omega arith in
    let last : within low width end ≡ end = omega arith in
    let value : below 16512 v ≡ Some v = ap (λ (c : Bool). if c then Some v else None) (lt-ltb v 16512 lv) in
    ap (λ (k : ℕ). put version width most from k (within k width end) (below 16512 v) text) first
    ∙ ap (λ (k : ℕ). put version width most from low k (below 16512 v) text) last
    ∙ ap (λ (o : Option ℕ). put version width most from low end o text) value

-- the values of a run from `low` to `high`, and of those after it, read from byte `from` on
abbrev pub row_from : ℕ → ℕ → ℕ → Option ℕ → List (Option ℕ) → List (Option ℕ)
row_from from low high value more = replicate (low - from) None ++ replicate (high + 1 - low) value ++ more

-- the text of ranges begins with a space, or is empty
stop_at : (low high : ℕ) (value : Option ℕ) (c : Bool) (xs ys : List ℕ) (behind : List ℕ) → NoDigit (xs ++ behind) → NoDigit (ys ++ behind) → NoDigit ((if c then xs else range_text low high value ++ ys) ++ behind)
stop_at low high value true xs ys behind a b = a
stop_at low high None false xs ys behind a b = b
stop_at low high (Some v) false xs ys behind a b = refl

pub stops : (low high : ℕ) (value : Option ℕ) (more : List (Option ℕ)) (rest : List ℕ) → NoDigit (ranges_from low high value more ++ (10 ∷ rest))
stops low high None [] rest = refl
stops low high (Some v) [] rest = refl
stops low high value (other ∷ more) rest =
    stop_at low high value (same_value value other) (ranges_from low (high + 1) value more) (ranges_from (high + 1) (high + 1) other more) (10 ∷ rest)
    (stops low (high + 1) value more rest) (stops (high + 1) (high + 1) other more rest)

same_is : (v w : Option ℕ) → same_value v w ≡ true → v ≡ w
same_is None None h = refl
same_is None (Some n) h = cc
same_is (Some m) None h = cc
same_is (Some m) (Some n) h = ap (λ (k : ℕ). Some k) (eqb-true m n h)

abbrev pub put_before : List (Option ℕ) → List (Option ℕ) × List ℕ → List (Option ℕ) × List ℕ
put_before row more = (row ++ more.0, more.1)

abbrev pub with_rest : List ℕ → List (Option ℕ) → List (Option ℕ) × List ℕ
with_rest rest row = (row, rest)

one_more : (most from low high v : ℕ) (text behind : List ℕ) (tail : List (Option ℕ)) → from ≤ low → low ≤ high → high < 256 → v < 16512 → NoDigit text →
    read_row First 256 most (high + 1) text ≡ with_rest behind tail →
    read_row First 256 (suc most) from (range_text low high (Some v) ++ text) ≡ with_rest behind (row_from from low high (Some v) tail)
one_more most from low high v text behind tail lf ll lh lv stop h =
    ap (run_then First 256 most from) (range_read low high v text (omega arith) (omega arith) (omega arith) stop)
    ∙ run_is First 256 most from low (high + 1) v text lf (omega arith) (omega arith) lv
    ∙ ap (put_before (replicate (low - from) None ++ replicate (high + 1 - low) (Some v))) h

-- nothing is read before a newline
at_end : (most from : ℕ) (rest : List ℕ) → read_row First 256 most from (10 ∷ rest) ≡ with_rest (10 ∷ rest) (replicate (256 - from) None)
at_end zero from rest = refl
at_end (suc most) from rest = refl

abbrev pub no_value : Option ℕ
no_value = None

-- two runs without a value are one
join_none : (from low high : ℕ) → from ≤ low → low ≤ high → replicate (low - from) no_value ++ replicate (high + 1 - low) no_value ≡ replicate (high + 1 - from) no_value
join_none from low high f l =
    let sum : low - from + (high + 1 - low) ≡ high + 1 - from = omega arith in
    replicate-append-replicate (low - from) (high + 1 - low) no_value ∙ ap (λ (k : ℕ). replicate k no_value) sum

pub one_value : (n : ℕ) (v : Option ℕ) → replicate (n + 1 - n) v ≡ v ∷ []
one_value n v = let one : n + 1 - n ≡ 1 = omega arith in ap (λ (k : ℕ). replicate k v) one

-- a run grows by the value after it
grows : (from low high : ℕ) (value : Option ℕ) (more : List (Option ℕ)) → low ≤ high → row_from from low (high + 1) value more ≡ row_from from low high value (value ∷ more)
grows from low high value more l =
    let longer : high + 1 + 1 - low ≡ high + 1 - low + 1 = omega arith in
    ap (λ (k : ℕ). replicate (low - from) None ++ replicate k value ++ more) longer
    ∙ ap (λ (run : List (Option ℕ)). replicate (low - from) None ++ run ++ more) (replicate_next (high + 1 - low) value)
    ∙ simp append_assoc

abbrev pub IsRead : ℕ → ℕ → ℕ → ℕ → Option ℕ → List (Option ℕ) → List ℕ → Type 0
IsRead most from low high value more rest = read_row First 256 most from (ranges_from low high value more ++ (10 ∷ rest)) ≡ with_rest (10 ∷ rest) (row_from from low high value more)

abbrev pub AreRead : List (Option ℕ) → Type 0
AreRead more = (most from low high : ℕ) (value : Option ℕ) (rest : List ℕ) →
    from ≤ low → low ≤ high → high + 1 + length more ≡ 256 → 256 ≤ most + from → IsSmall value → All IsSmall more → IsRead most from low high value more rest

next_run : (other : Option ℕ) (more : List (Option ℕ)) → AreRead more → (c : Bool) (most from low high : ℕ) (value : Option ℕ) (rest : List ℕ) →
    same_value value other ≡ c → from ≤ low → low ≤ high → high + 1 + suc (length more) ≡ 256 → 256 ≤ most + from → IsSmall value → IsSmall other → All IsSmall more →
    read_row First 256 most from ((if c then ranges_from low (high + 1) value more else range_text low high value ++ ranges_from (high + 1) (high + 1) other more) ++ (10 ∷ rest)) ≡ with_rest (10 ∷ rest) (row_from from low high value (other ∷ more))
next_run other more ih true most from low high value rest e f l all fuel small one smalls =
    ih most from low (high + 1) value rest f (omega arith) (omega arith) fuel small smalls
    ∙ ap (with_rest (10 ∷ rest)) (grows from low high value more l ∙ ap (λ (v : Option ℕ). row_from from low high value (v ∷ more)) (same_is value other e))
next_run other more ih false most from low high None rest e f l all fuel small one smalls =
    ih most from (high + 1) (high + 1) other rest (omega arith) (omega arith) (omega arith) fuel one smalls
    ∙ ap (with_rest (10 ∷ rest)) (ap (λ (run : List (Option ℕ)). replicate (high + 1 - from) None ++ run ++ more) (one_value (high + 1) other) ∙ (ap (λ (run : List (Option ℕ)). run ++ (other ∷ []) ++ more) (sym (join_none from low high f l)) ∙ simp append_assoc))
next_run other more ih false zero from low high (Some v) rest e f l all fuel small one smalls = absurd (omega arith)
next_run other more ih false (suc most) from low high (Some v) rest e f l all fuel small one smalls =
    let text = ranges_from (high + 1) (high + 1) other more ++ (10 ∷ rest) in
    let tail : row_from (high + 1) (high + 1) (high + 1) other more ≡ other ∷ more =
    (let none : high + 1 - (high + 1) ≡ 0 = omega arith in
    ap (λ (k : ℕ). replicate k None ++ replicate (high + 1 + 1 - (high + 1)) other ++ more) none ∙ ap (λ (run : List (Option ℕ)). run ++ more) (one_value (high + 1) other)) in
    ap (λ (bs : List ℕ). read_row First 256 (suc most) from bs) (append_assoc (range_text low high (Some v)) (ranges_from (high + 1) (high + 1) other more) (10 ∷ rest))
    ∙ one_more most from low high v text (10 ∷ rest) (other ∷ more) f l (omega arith) small (stops (high + 1) (high + 1) other more rest)
    (ih most (high + 1) (high + 1) (high + 1) other rest (omega arith) (omega arith) (omega arith) (omega arith) one smalls ∙ ap (with_rest (10 ∷ rest)) tail)

pub ranges_read : (more : List (Option ℕ)) → AreRead more
ranges_read [] most from low high None rest f l all fuel small smalls =
    let whole : 256 - from ≡ high + 1 - from = omega arith in
    at_end most from rest ∙ ap (with_rest (10 ∷ rest)) (ap (λ (k : ℕ). replicate k None) whole ∙ (sym (join_none from low high f l) ∙ sym (append-nil (replicate (low - from) None ++ replicate (high + 1 - low) None))))
ranges_read [] zero from low high (Some v) rest f l all fuel small smalls = absurd (omega arith)
ranges_read [] (suc most) from low high (Some v) rest f l all fuel small smalls =
    let none : 256 - (high + 1) ≡ 0 = omega arith in
    one_more most from low high v (10 ∷ rest) (10 ∷ rest) [] f l (omega arith) small refl (at_end most (high + 1) rest ∙ ap (λ (k : ℕ). with_rest (10 ∷ rest) (replicate k None)) none)
ranges_read (other ∷ more) most from low high value rest f l all fuel small smalls =
    next_run other more (ranges_read more) (same_value value other) most from low high value rest refl f l all fuel small (All-head IsSmall other more smalls) (All-tail IsSmall other more smalls)
