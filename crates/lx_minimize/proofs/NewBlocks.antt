-- The bounds of the blocks' states when one is split.
use Rattle.std.proofs.Common.{◌≡◌, ◌≢◌, ℕ, ◌+◌, ◌<◌, ◌≤◌, inl, inr, List, [], ◌∷◌, ◌++◌, length, slice_index, sym, ◌∙◌, ap, arith, length-append}
use Rattle.std.proofs.lemmas.Bool.{cases_eq, cases_lt}
use Rattle.std.proofs.lemmas.List.{get_or_append_left, get_or_push}
use Rattle.lx_minimize.specs.Partitions.{block, block_count, AreRenumbered}
use Rattle.lx_minimize.specs.declared.partition.Partition.{Partition}
use Rattle.lx_minimize.specs.BlockBounds.{AreBounds, HasNewBlock}
use Rattle.lx_minimize.specs.declared.bounds.Bounds.{Bounds}
use Rattle.lx_minimize.specs.declared.bounds.StateRange.{StateRange}

module _ (p q : Partition) (ms : List ℕ) (range : StateRange) (blocks : AreRenumbered p.block_of.items q.block_of.items ms (block_count p) (length ms))
    (low : (j : ℕ) → j < length ms → range.low ≤ slice_index ms j) (high : (j : ℕ) → j < length ms → slice_index ms j ≤ range.high) where
  becomes_fresh : (s : ℕ) → block q s ≢ block p s → block q s ≡ block_count p
  becomes_fresh s ne = elim (cases_eq (block q s) (block_count p)) [
    | inl e ↦ e
    | inr other ↦ absurd (ne (blocks.other s (λ j h e. other (ap (λ x. block q x) (sym e) ∙ blocks.moved j h))))
  ]

  not_before : (s : ℕ) → block q s ≢ block p s → range.low ≤ s
  not_before s ne = elim (cases_lt s range.low) [
    | inl l ↦ absurd (ne (blocks.other s (λ j h e. let a = low j h in absurd (omega arith))))
    | inr l ↦ omega arith
  ]

  not_behind : (s : ℕ) → block q s ≢ block p s → s ≤ range.high
  not_behind s ne = elim (cases_lt range.high s) [
    | inl l ↦ absurd (ne (blocks.other s (λ j h e. let a = high j h in absurd (omega arith))))
    | inr l ↦ omega arith
  ]

  pub new_block : HasNewBlock p q range
  new_block = record {
    long = blocks.long;
    each = λ s h. elim (cases_eq (block q s) (block p s)) [
      | inl e ↦ inl e
      | inr ne ↦ inr (becomes_fresh s ne, not_before s ne, not_behind s ne)
    ];
  }

module _ (p q : Partition) (old new : Bounds) (range : StateRange) (bounds : AreBounds p old) (divided : HasNewBlock p q range)
    (count : block_count q ≡ block_count p + 1) (below : (s : ℕ) → s < length p.block_of.items → block p s < block_count p)
    (lows : new.lows.items ≡ old.lows.items ++ range.low ∷ []) (highs : new.highs.items ≡ old.highs.items ++ range.high ∷ []) where
  kept : (xs ys : List ℕ) (x s : ℕ) → ys ≡ xs ++ x ∷ [] → length xs ≡ block_count p → s < length p.block_of.items → block q s ≡ block p s →
      slice_index ys (block q s) ≡ slice_index xs (block p s)
  kept xs ys x s is long h same =
      let inside = below s h in
      ap (λ zs. slice_index zs (block q s)) is ∙ ap (λ b. slice_index (xs ++ x ∷ []) b) same ∙ get_or_append_left xs (x ∷ []) 0 (block p s) (omega arith)

  added : (xs ys : List ℕ) (x s : ℕ) → ys ≡ xs ++ x ∷ [] → length xs ≡ block_count p → block q s ≡ block_count p → slice_index ys (block q s) ≡ x
  added xs ys x s is long fresh = ap (λ zs. slice_index zs (block q s)) is ∙ get_or_push xs x 0 (block q s) (long ∙ sym fresh)

  pub bounds_after : AreBounds q new
  bounds_after = record {
    lows = (let l = bounds.lows in ap length lows ∙ length-append old.lows.items (range.low ∷ []) ∙ omega arith);
    highs = (let l = bounds.highs in ap length highs ∙ length-append old.highs.items (range.high ∷ []) ∙ omega arith);
    all = record {
      low = λ s h.
          let long = divided.long in
          let inside : s < length p.block_of.items = omega arith in
          elim (divided.each s inside) [
            | inl same ↦
                let e = kept old.lows.items new.lows.items range.low s lows bounds.lows inside same in
                let l = bounds.all.low s inside in omega arith
            | inr fresh ↦
                let e = added old.lows.items new.lows.items range.low s lows bounds.lows fresh.0 in
                let l = fresh.1 in omega arith
          ];
      high = λ s h.
          let long = divided.long in
          let inside : s < length p.block_of.items = omega arith in
          elim (divided.each s inside) [
            | inl same ↦
                let e = kept old.highs.items new.highs.items range.high s highs bounds.highs inside same in
                let l = bounds.all.high s inside in omega arith
            | inr fresh ↦
                let e = added old.highs.items new.highs.items range.high s highs bounds.highs fresh.0 in
                let l = fresh.2 in omega arith
          ];
    };
  }
