-- An expression split into blocks, whose outline has one position for each of them.
use Rattle.std.specs.Prelude.{◌≡◌, ℕ, suc, ◌+◌, Bool, true, false, List, [], ◌∷◌, ◌++◌}
use Rattle.std.specs.FinSet as set
use Rattle.std.specs.Ordering.{nat_cmp}
use Rattle.lx_auto.specs.Unfolded.{Unfolded, leaf, cat, alt, opt, plus, position_count, nullable}
use Rattle.lx_auto.specs.Marking.{flag}
use Rattle.lx_auto.specs.Passing.{HasNoEmptyPart, ended, read_list}

-- a way to split an expression into blocks
pub data Chunking : Type 0 where
  -- one block; the set is a placeholder in the outline, without meaning
  one_block : set.FinSet nat_cmp → Unfolded → Chunking
  chunked_cat : Chunking → Chunking → Chunking
  chunked_alt : Chunking → Chunking → Chunking
  chunked_opt : Chunking → Chunking
  chunked_plus : Chunking → Chunking

-- the expression that was split
abbrev pub tree_of : Chunking → Unfolded
tree_of (one_block s e) = e
tree_of (chunked_cat a b) = cat (tree_of a) (tree_of b)
tree_of (chunked_alt a b) = alt (tree_of a) (tree_of b)
tree_of (chunked_opt a) = opt (tree_of a)
tree_of (chunked_plus a) = plus (tree_of a)

-- the outline of a block
abbrev pub outline_of_block : set.FinSet nat_cmp → Bool → Unfolded
outline_of_block s true = opt (leaf s)
outline_of_block s false = leaf s

abbrev pub outline : Chunking → Unfolded
outline (one_block s e) = outline_of_block s (nullable e)
outline (chunked_cat a b) = cat (outline a) (outline b)
outline (chunked_alt a b) = alt (outline a) (outline b)
outline (chunked_opt a) = opt (outline a)
outline (chunked_plus a) = plus (outline a)

abbrev pub blocks_of : Chunking → List Unfolded
blocks_of (one_block s e) = e ∷ []
blocks_of (chunked_cat a b) = blocks_of a ++ blocks_of b
blocks_of (chunked_alt a b) = blocks_of a ++ blocks_of b
blocks_of (chunked_opt a) = blocks_of a
blocks_of (chunked_plus a) = blocks_of a

-- the number of positions of the blocks
abbrev pub positions_of : List Unfolded → ℕ
positions_of [] = 0
positions_of (e ∷ es) = position_count e + positions_of es

-- Blocks are numbered from j on, and their positions from k on. Each flag is true if a marked position can be last in the block.
abbrev pub HaveEnded : List Bool → List Bool → List Unfolded → ℕ → ℕ → Type 0
HaveEnded marks flags [] j k = Unit {0}
HaveEnded marks flags (e ∷ es) j k = (flag flags j ≡ ended marks e k) × HaveEnded marks flags es (suc j) (k + position_count e)

-- the flags of readable positions, those of the blocks' positions set anew; a block may be entered if its own flag is true
abbrev pub read_blocks : List Bool → List Bool → List Unfolded → ℕ → ℕ → List Bool → List Bool
read_blocks marks entered [] j k reads = reads
read_blocks marks entered (e ∷ es) j k reads = read_list marks e (flag entered j) k (read_blocks marks entered es (suc j) (k + position_count e) reads)

-- two expressions with equal results for all marked positions
pub record AreEquivalentExpressions (d e : Unfolded) : Type 0 where
  pub count : position_count d ≡ position_count e
  pub null : nullable d ≡ nullable e
  pub ends : (marks : List Bool) (p : ℕ) → ended marks d p ≡ ended marks e p
  pub reads : (marks : List Bool) (f : Bool) (p : ℕ) (old : List Bool) → read_list marks d f p old ≡ read_list marks e f p old
  pub no_empty : HasNoEmptyPart e → HasNoEmptyPart d
