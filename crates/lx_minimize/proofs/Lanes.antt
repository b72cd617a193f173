-- A search 32 at a time.
use Rattle.std.proofs.Common.{◌≡◌, ◌≢◌, ℕ, ◌+◌, ◌<◌, ◌≤◌, ◌%◌, ◌^◌, Bool, true, false, not, cond, eqb, List, length, take, drop, map, min, replicate, refl, sym, subst, ap, ◌∙◌, arith, length-take-le, length-drop, slice_index, lit≤}
use Rattle.std.proofs.lemmas.Bool.{eqb-true}
use Rattle.std.proofs.lemmas.Simd.{bitmask_splat, first_set_mask_l, run_in_chunk_le, run_in_chunk_fails, run_in_chunk_stops}
use Rattle.std.proofs.lemmas.Grind.{common_steps}
use Rattle.std.specs.Int.{w16}
use Rattle.std.specs.List.{prefix_len}
use lib.Count.{count_trailing_zeros}
use lib.Lanes.{mask_l, top, zip2}

-- the mask of the lanes of 32 numbers that are this one
abbrev lane_mask : List ℕ → ℕ → ℕ → ℕ
lane_mask xs from number = mask_l (map (top 15) (zip2 (λ a b. cond (eqb a b) 65535 0) (take 32 (drop from xs)) (replicate 32 number))) % 2 ^ 64

least_of : (none : Bool) (t r : ℕ) → cond none 32 t ≡ r → r ≤ 32 → (none ≡ true → 32 ≤ t) → min 32 t ≡ r
least_of true t r e few far = let h = far refl in omega (arith, e, h)
least_of false t r e few far = omega (arith, e, few)

module _ (xs : List ℕ) (from number : ℕ) (room : from + 32 ≤ length xs) where
  whole : length (take 32 (drop from xs)) ≡ 32
  whole = length-take-le 32 (drop from xs) (omega (arith, length-drop from xs))

  none_set : (m : ℕ) → eqb m 0 ≡ true → 32 ≤ count_trailing_zeros 64 m
  unfolding count_trailing_zeros
  none_set m e = subst (λ k. 32 ≤ count_trailing_zeros 64 k) (sym (eqb-true m 0 e)) (lit≤ tt)

  -- the number of states before the first one
  counted : min 32 (count_trailing_zeros 64 (lane_mask xs from number)) ≡ prefix_len (λ x. not (eqb x number)) (take 32 (drop from xs))
  counted =
      let m = mask_l (map (λ x. eqb x number) (take 32 (drop from xs))) in
      let first = first_set_mask_l (λ x. eqb x number) (take 32 (drop from xs)) 32 whole (lit≤ tt) in
      ap (λ k. min 32 (count_trailing_zeros 64 k)) (bitmask_splat w16 eqb (take 32 (drop from xs)) 32 number whole (lit≤ tt))
      ∙ least_of (eqb m 0) (count_trailing_zeros 64 m) (prefix_len (λ x. not (eqb x number)) (take 32 (drop from xs))) first few (none_set m)
    where
      few : prefix_len (λ x. not (eqb x number)) (take 32 (drop from xs)) ≤ 32
      few = run_in_chunk_le (λ x. eqb x number) xs from 32 _ 0 room refl

  module _ (r : ℕ) (e : r ≡ min 32 (count_trailing_zeros 64 (lane_mask xs from number))) where
    pub none_before : (s : ℕ) → from ≤ s → s < from + r → slice_index xs s ≢ number
    none_before s low high is =
        let fails = run_in_chunk_fails (λ x. eqb x number) xs from 32 r 0 room (e ∙ counted) s low high in
        grind (arith, common_steps)

    pub first_behind : r < 32 → slice_index xs (from + r) ≡ number
    first_behind short = eqb-true (slice_index xs (from + r)) number (run_in_chunk_stops (λ x. eqb x number) xs from 32 r 0 room (e ∙ counted) short)
