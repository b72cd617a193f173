-- Groups of bytes, each with a representative byte.
use Rattle.std.specs.Prelude.{◌≡◌, ℕ, ◌<◌, List, slice_index, slice_get, Some}
use Rattle.lx_auto.specs.Leaves.{PlainLeaf, leaf_has}

-- the representative of this byte's group
abbrev pub representative_of : List ℕ → List ℕ → ℕ → ℕ
representative_of classes representatives b = slice_index representatives (slice_index classes b)

-- the leaf doesn't distinguish a byte from its representative
pub record RespectsGroups (leaf : PlainLeaf) (classes representatives : List ℕ) : Type 0 where
  pub each : (b : ℕ) → b < 256 → leaf_has leaf b ≡ leaf_has leaf (representative_of classes representatives b)

-- two bytes are in one group, and the leaf doesn't distinguish them
pub record AreTogether (leaf : PlainLeaf) (classes : List ℕ) (r b : ℕ) : Type 0 where
  pub byte : r < 256
  pub group : slice_index classes r ≡ slice_index classes b
  pub same : leaf_has leaf r ≡ leaf_has leaf b

-- each byte below n is together with its new representative
pub record IsSplitBelow (leaf : PlainLeaf) (old classes representatives : List ℕ) (n : ℕ) : Type 0 where
  pub each : (b : ℕ) → b < n → AreTogether leaf old (representative_of classes representatives b) b

-- none of the first n leaves distinguishes a byte from its representative
pub record RespectGroupsBelow (leaves : List PlainLeaf) (classes representatives : List ℕ) (n : ℕ) : Type 0 where
  pub each : (q : ℕ) (leaf : PlainLeaf) → q < n → slice_get leaves q ≡ Some leaf → RespectsGroups leaf classes representatives
