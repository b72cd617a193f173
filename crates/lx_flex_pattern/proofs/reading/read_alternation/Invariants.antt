use Rattle.lx_ere.specs.Groups.{groups_of}
use Rattle.lx_flex_pattern.specs.Pieces.{names_of}
use Rattle.lx_flex_pattern.specs.Progress.{Reached, place_of}
use Rattle.lx_flex_pattern.proofs.reading.read_alternation.Given as goal

abbrev pub invariant-loop : goal.invariant-loop
invariant-loop l = Reached l.options (names_of l.names) (place_of l.fn.place) (groups_of l.groups) (place_of l.place)
