-- Rows, one after the other.
use Rattle.std.proofs.Common.{ℕ, zero, suc, ◌≡◌, ◌≤◌, ◌+◌, ◌*◌, List, ◌++◌, Option, None, length, take, drop, map, get_or, sym, ◌∙◌, ap, ap₂, arith, length-drop}
use Rattle.std.specs.List.{flat_map, range_with_len}
use Rattle.std.proofs.Math.Seq.{take-add}
use Rattle.std.proofs.lemmas.List.{take_all, drop-drop, get_or-take, get_or-drop, length-take-le}
use Rattle.std.proofs.lemmas.List.FromFn.{fill_by_all}

module _ (xs : List (Option ℕ)) where
  row_is : (a w : ℕ) → a + w ≤ length xs → map (λ c. get_or xs (a + c) None) (range_with_len 0 w) ≡ take w (drop a xs)
  row_is a w l =
      sym (fill_by_all (λ c. get_or xs (a + c) None) (take w (drop a xs)) w None (length-take-le w (drop a xs) (omega (arith, length-drop a xs)))
      (λ k h. get_or-take w (drop a xs) k None h ∙ get_or-drop a xs k None))

  suc_row : (a b : ℕ) → suc a * b ≡ b + a * b
  suc_row a b = grind arith

  add_rows : (k n w : ℕ) → (k + suc n) * w ≡ k * w + (w + n * w)
  add_rows k n w = grind arith

  next_rows : (k n w : ℕ) → (k + 1 + n) * w ≡ (k + suc n) * w
  next_rows k n w = grind arith

  next_row : (k w : ℕ) → (k + 1) * w ≡ k * w + w
  next_row k w = grind arith

  no_row : (w : ℕ) → 0 * w ≡ 0
  no_row w = grind arith

  rows_from : (w n k : ℕ) → (k + n) * w ≤ length xs →
      flat_map (λ s. map (λ c. get_or xs (s * w + c) None) (range_with_len 0 w)) (range_with_len k n) ≡ take (n * w) (drop (k * w) xs)
  rows_from w zero k l = ap (λ n. take n (drop (k * w) xs)) (sym (no_row w))
  rows_from w (suc n) k l =
      let a = add_rows k n w in
      let rest = rows_from w n (k + 1) (let b = next_rows k n w in omega arith) in
      ap₂ (λ (x y : List (Option ℕ)). x ++ y) (row_is (k * w) w (omega arith)) rest
      ∙ ap (λ i. take w (drop (k * w) xs) ++ take (n * w) (drop i xs)) (next_row k w)
      ∙ ap (λ (ys : List (Option ℕ)). take w (drop (k * w) xs) ++ take (n * w) ys) (sym (drop-drop w (k * w) xs))
      ∙ sym (take-add w (n * w) (drop (k * w) xs))
      ∙ ap (λ i. take i (drop (k * w) xs)) (sym (suc_row n w))

  pub rows_are : (w n : ℕ) → length xs ≡ n * w → flat_map (λ s. map (λ c. get_or xs (s * w + c) None) (range_with_len 0 w)) (range_with_len 0 n) ≡ xs
  rows_are w n e =
      let b : 0 + n ≡ n = omega arith in
      let c = ap (λ i. i * w) b in
      rows_from w n 0 (omega arith) ∙ ap (λ i. take (n * w) (drop i xs)) (no_row w) ∙ take_all (n * w) xs (omega arith)
