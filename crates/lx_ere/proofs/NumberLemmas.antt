-- The number that digits spell, a digit at a time.
use Rattle.std.proofs.Common.{◌≡◌, ℕ, ◌+◌, ◌*◌, ◌<◌, ◌≤◌, List, [], ◌∷◌, length, drop, get_or, refl, arith}
use Rattle.std.proofs.lemmas.List.{drop_more}
use Rattle.lx_ere.specs.Escapes.{digit_of, number_behind}

pub number_step : (base value i : ℕ) (digits : List ℕ) → i < length digits → number_behind base value (drop i digits) ≡ number_behind base (value * base + digit_of (get_or digits i 0)) (drop (i + 1) digits)
number_step base value i digits within = rw (drop_more digits i 0 within) refl

pub number_large : (base n : ℕ) (digits : List ℕ) → 1 ≤ base → 256 ≤ n → 256 ≤ number_behind base n digits
number_large base n [] low large = large
number_large base n (d ∷ digits) low large = number_large base (n * base + digit_of d) digits low (at_least base n (digit_of d) low large)
  where
    at_least : (base n k : ℕ) → 1 ≤ base → 256 ≤ n → 256 ≤ n * base + k
    at_least base n k low large = grind arith
