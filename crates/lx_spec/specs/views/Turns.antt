-- The front of some words, in the code, without its place in memory.
use Rattle.std.specs.Prelude.{ℕ, ◌<◌, ◌≤◌, List, drop}
use Rattle.lx_spec.specs.Actions as actions
use Rattle.lx_spec.specs.views.Words.{words_view}
use Rattle.lx_spec.specs.views.Actions.{statement_view}
use Rattle.lx_spec.specs.declared.word.Word.{Word}
use Rattle.lx_spec.specs.declared.action.Turn.{Turn}
use Rattle.lx_spec.specs.declared.action.Turn.TheVariants.{Finished, Opens, Closes, States, NoStatement}

abbrev pub turn_view : List Word → Turn → actions.Turn
turn_view words Finished = actions.finished
turn_view words Opens = actions.opens (words_view (drop 1 words))
turn_view words Closes = actions.closes (words_view (drop 1 words))
turn_view words (States s n) = actions.states (statement_view s) (words_view (drop n words))
turn_view words NoStatement = actions.no_statement

-- it takes at least one of this number of words, and no more than all
abbrev pub TakesWords : Turn → ℕ → Type 0
TakesWords Finished n = Unit {0}
TakesWords Opens n = 0 < n
TakesWords Closes n = 0 < n
TakesWords (States s k) n = (0 < k) × (k ≤ n)
TakesWords NoStatement n = Unit {0}
