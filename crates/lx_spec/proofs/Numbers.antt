-- Numbers spelled by decimal digits.
use Rattle.std.proofs.Common.{◌≡◌, ◌∙◌, ℕ, ◌+◌, ◌-◌, ◌*◌, ◌≤◌, ◌<◌, true, false, nat_lt, Some, None, List, [], ◌∷◌, length, drop, get_or, ap, sym, arith, add-one, drop-cons}
use Rattle.std.proofs.lemmas.List.{drop_all}
use Rattle.std.proofs.lemmas.Bool.Decides.{nat_tests}
use Rattle.lx_spec.specs.Constants.{decimal_behind, decimal_of, decimal_below}
use Rattle.lx_spec.proofs.Words.{pick_first, pick_second}

-- more digits make no number smaller
pub decimal_behind-grows : (n : ℕ) (digits : List ℕ) → n ≤ decimal_behind n digits
decimal_behind-grows n [] = omega arith
decimal_behind-grows n (d ∷ digits) =
    let more : n * 10 + (d - 48) ≤ decimal_behind (n * 10 + (d - 48)) digits = decimal_behind-grows (n * 10 + (d - 48)) digits in
    omega (arith, more)

-- one digit more
pub decimal_behind-step : (n i : ℕ) (digits : List ℕ) → i < length digits
    → decimal_behind n (drop i digits) ≡ decimal_behind (n * 10 + (get_or digits i 0 - 48)) (drop (i + 1) digits)
decimal_behind-step n i digits less =
    ap (decimal_behind n) (drop-cons digits i 0 less) ∙ ap (λ (k : ℕ). decimal_behind (n * 10 + (get_or digits i 0 - 48)) (drop k digits)) (sym (add-one i))

pub decimal_behind-end : (n i : ℕ) (digits : List ℕ) → length digits ≤ i → decimal_behind n (drop i digits) ≡ n
decimal_behind-end n i digits all = ap (decimal_behind n) (drop_all i digits all)

pub decimal_below-some : (limit n : ℕ) (digits : List ℕ) → n ≡ decimal_of digits → n < limit → Some n ≡ decimal_below limit digits
decimal_below-some limit n digits e less =
    let test : nat_lt (decimal_of digits) limit ≡ true = ap (λ (k : ℕ). nat_lt k limit) (sym e) ∙ grind (arith, nat_tests) in
    sym (pick_first _ _ test ∙ ap (λ (k : ℕ). Some k) (sym e))

pub decimal_below-none : (limit : ℕ) (digits : List ℕ) → limit ≤ decimal_of digits → None ≡ decimal_below limit digits
decimal_below-none limit digits more =
    let test : nat_lt (decimal_of digits) limit ≡ false = grind (arith, nat_tests) in
    sym (pick_second _ _ test)
