-- Expressions without names and counts, in which each leaf is one position (McNaughton and Yamada 1960; Glushkov 1961).
use Rattle.std.specs.Prelude.{◌≡◌, ℕ, zero, suc, ◌+◌, ◌⊎◌, Bool, true, false, ◌&&◌, ◌||◌, IsTrue, List, [], ◌∷◌, ◌++◌}
use Rattle.std.specs.FinSet as set
use Rattle.std.specs.Ordering.{nat_cmp}

pub data Unfolded : Type 0 where
  -- the empty word
  empty : Unfolded
  -- one byte of the set
  leaf : (bytes : set.FinSet nat_cmp) → Unfolded
  -- one then the other; one or the other
  cat : Unfolded → Unfolded → Unfolded
  alt : Unfolded → Unfolded → Unfolded
  -- the body, or the empty word
  opt : Unfolded → Unfolded
  -- one or more of the body, one after another
  plus : Unfolded → Unfolded

-- the number of positions of the expression
abbrev pub position_count : Unfolded → ℕ
position_count empty = 0
position_count (leaf bytes) = 1
position_count (cat a b) = position_count a + position_count b
position_count (alt a b) = position_count a + position_count b
position_count (opt a) = position_count a
position_count (plus a) = position_count a

-- true if the expression matches the empty word
abbrev pub nullable : Unfolded → Bool
nullable empty = true
nullable (leaf bytes) = false
nullable (cat a b) = nullable a && nullable b
nullable (alt a b) = nullable a || nullable b
nullable (opt a) = true
nullable (plus a) = nullable a

-- the list is that many lists of P, joined
abbrev pub Joined : (List ℕ → Type 0) → ℕ → List ℕ → Type 0
Joined P zero w = w ≡ []
Joined P (suc n) w = (u : List ℕ) × (v : List ℕ) × (w ≡ u ++ v) × P u × Joined P n v

-- The words that the expression matches, with its positions numbered from k on. L has the words of the leaf at a position.
abbrev pub WordOf : (set.FinSet nat_cmp → ℕ → List ℕ → Type 0) → Unfolded → ℕ → List ℕ → Type 0
WordOf L empty k w = w ≡ []
WordOf L (leaf bytes) k w = L bytes k w
WordOf L (cat a b) k w = (u : List ℕ) × (v : List ℕ) × (w ≡ u ++ v) × WordOf L a k u × WordOf L b (k + position_count a) v
WordOf L (alt a b) k w = WordOf L a k w ⊎ WordOf L b (k + position_count a) w
WordOf L (opt a) k w = (w ≡ []) ⊎ WordOf L a k w
WordOf L (plus a) k w = (n : ℕ) × Joined (WordOf L a k) (suc n) w

-- each position represents itself: the words of positions
abbrev pub own_position : set.FinSet nat_cmp → ℕ → List ℕ → Type 0
own_position bytes k w = w ≡ k ∷ []

abbrev pub PositionWord : Unfolded → ℕ → List ℕ → Type 0
PositionWord e k ps = WordOf own_position e k ps

-- each position represents one byte of its set: the words of bytes
abbrev pub byte_of_set : set.FinSet nat_cmp → ℕ → List ℕ → Type 0
byte_of_set bytes k w = (b : ℕ) × IsTrue (set.contains bytes b) × (w ≡ b ∷ [])

abbrev pub ByteWord : Unfolded → ℕ → List ℕ → Type 0
ByteWord e k w = WordOf byte_of_set e k w
