-- The limits beyond which a specification is too large for an automaton.
use Rattle.std.specs.Prelude.{◌<◌, ◌≤◌}
use Rattle.lx_rules.specs.Limits.{max_positions, max_reached_sets}
use Rattle.lx_rules.specs.Plain.{PlainSpec}
use Rattle.lx_auto.specs.Counts.{count_of_spec}
use Rattle.lx_auto.specs.PositionSets.{HasMoreReachedSets}

-- it has more positions than an automaton may have
abbrev pub HasTooManyPositions : PlainSpec → Type 0
HasTooManyPositions spec = max_positions < count_of_spec spec

-- it has at most the greatest number of positions, and texts reach too many sets of them
abbrev pub HasTooManySets : PlainSpec → Type 0
HasTooManySets spec = (count_of_spec spec ≤ max_positions) × HasMoreReachedSets spec max_reached_sets
