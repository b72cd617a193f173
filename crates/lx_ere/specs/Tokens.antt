-- The meaning of the code's values.
use Rattle.std.specs.Prelude.{ℕ, List, [], ◌∷◌}
use Rattle.lx_ere.specs.Brackets.{BracketPosition, opening, behind_caret, inside}
use Rattle.lx_ere.specs.declared.bracket.BracketPosition as code_position
use Rattle.lx_ere.specs.declared.bracket.BracketPosition.TheVariants as position
use Rattle.lx_ere.specs.declared.bracket.Member as code_member
use Rattle.lx_ere.specs.declared.bracket.Member.TheVariants as member

abbrev pub position_of : code_position.BracketPosition → BracketPosition
position_of position.Opening = opening
position_of position.BehindCaret = behind_caret
position_of position.Inside = inside

-- the ranges of bytes of a member
abbrev pub ranges_of : code_member.Member → List (ℕ × ℕ)
ranges_of (member.Range first last) = (first, last) ∷ []
ranges_of (member.Class ranges) = ranges.now
