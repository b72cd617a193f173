-- The bytes of each position, in a list over all positions of the rules.
use Rattle.std.specs.Prelude.{◌≡◌, ℕ, ◌<◌, ◌↔◌, Bool, true, false, nat_eq, List, length, slice_get, slice_index, Option, Some, None}
use Rattle.std.specs.FinSet as set
use Rattle.std.specs.Ordering.{nat_cmp}
use Rattle.lx_auto.specs.PositionSets.{NumberedRule}
use Rattle.lx_auto.specs.SetSteps.{HasSomeByte}

-- the meaning of a position: one byte of a set, or a newline
pub data PlainLeaf : Type 0 where
  one_of_set : set.FinSet nat_cmp → PlainLeaf
  newline : PlainLeaf

abbrev pub leaf_has : PlainLeaf → ℕ → Bool
leaf_has (one_of_set s) b = set.contains s b
leaf_has newline b = nat_eq b 10

abbrev pub leaf_has_at : Option PlainLeaf → ℕ → Bool
leaf_has_at None b = false
leaf_has_at (Some l) b = leaf_has l b

-- true if position q has the byte b
abbrev pub has_byte : List PlainLeaf → ℕ → ℕ → Bool
has_byte leaves q b = leaf_has_at (slice_get leaves q) b

-- the leaves are those of the positions of the rules
pub record AreLeavesOf (rules : List NumberedRule) (leaves : List PlainLeaf) : Type 0 where
  pub each : (q b : ℕ) → (has_byte leaves q b ≡ true) ↔ HasSomeByte rules q b

-- bytes of one group are equal for every position: a property of a byte holds for its group's representative
pub record AreGroupsOf (leaves : List PlainLeaf) (classes representatives : List ℕ) : Type 0 where
  pub bytes : length classes ≡ 256
  pub below : (b : ℕ) → b < 256 → slice_index classes b < length representatives
  pub few : length representatives < 257
  pub same : (q b : ℕ) → b < 256 → has_byte leaves q b ≡ has_byte leaves q (slice_index representatives (slice_index classes b))
