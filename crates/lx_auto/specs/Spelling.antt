-- The texts that the positions of a rule's pattern spell (Glushkov 1961).
use Rattle.std.specs.Prelude.{ℕ, List}
use Rattle.lx_auto.specs.PositionSets.{NumberedRule}
use Rattle.lx_auto.specs.Positions.{Last, HasByte, IsReached}

-- A path spells the text: from a position that can be first in the pattern, by positions that can follow one another, to one that can be last.
pub record IsSpelled (r : NumberedRule) (text : List ℕ) : Type 0 where
  pub last : ℕ
  pub path : IsReached (HasByte r.tree r.base) r.tree r.base text last
  pub ends : Last r.tree r.base last
