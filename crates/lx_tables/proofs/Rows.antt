-- The texts of numbers, put before one another from the last one on.
use Rattle.std.proofs.Common.{ℕ, ◌≡◌, ◌<◌, ◌+◌, List, ◌++◌, drop, ap, ◌∙◌, arith}
use Rattle.std.proofs.lemmas.List.{drop_more}
use Rattle.std.proofs.lemmas.List.FromFn.{length-range_with_len, get_or-range_with_len}
use Rattle.std.specs.List.{flat_map, range_with_len}

pub texts_before : (text : ℕ → List ℕ) (n i : ℕ) → i < n → flat_map text (drop i (range_with_len 0 n)) ≡ text i ++ flat_map text (drop (i + 1) (range_with_len 0 n))
texts_before text n i l =
    let from : 0 + i ≡ i = omega arith in
    ap (λ xs. flat_map text xs) (drop_more (range_with_len 0 n) i 0 (omega (arith, length-range_with_len 0 n)))
    ∙ ap (λ x. text x ++ flat_map text (drop (i + 1) (range_with_len 0 n))) (get_or-range_with_len 0 n i 0 l ∙ from)
