use Rattle.lx_ere.specs.Groups.{groups_of}
use Rattle.lx_flex_pattern.specs.Pieces.{names_of, state_of}
use Rattle.lx_flex_pattern.specs.Progress.{Reached, place_of}
use Rattle.lx_flex_pattern.specs.Reading.{Place, place}
use Rattle.lx_flex_pattern.proofs.reading.read_row.Given as goal

abbrev pub invariant-loop-parts : goal.invariant-loop-parts
invariant-loop-parts l =
    (from : Place) → Reached l.options (names_of l.names) from (groups_of l.fn.groups) (place_of l.fn.place) →
    Reached l.options (names_of l.names) from (groups_of l.groups) (place (state_of l.state) l.inserted l.rest)

abbrev pub decreases-loop-parts : goal.decreases-loop-parts
decreases-loop-parts l = l.parts
