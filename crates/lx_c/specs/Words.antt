-- The words of rows: a row has for each class of bytes the target of the state's step, as the place where that state's row begins, or 0; and then the number of the
-- rule that it accepts plus 1, or 0. The first row has no state.
use Rattle.std.specs.Prelude.{ℕ, ◌+◌, ◌*◌, max, Option, Some, None, length}
use Rattle.lx_automaton.specs.Automata.{Machine, state_count}
use Rattle.lx_tables.specs.Model.{Table}

-- the number of words of a row
abbrev pub row_width : Machine → ℕ
row_width m = m.width + 1

-- the place where the row of a state begins
abbrev pub row_of : Machine → ℕ → ℕ
row_of m s = (s + 1) * row_width m

abbrev pub target_word : Machine → Option ℕ → ℕ
target_word m None = 0
target_word m (Some s) = row_of m s

abbrev pub rule_word : Option ℕ → ℕ
rule_word None = 0
rule_word (Some r) = r + 1

-- no word of a row is greater
abbrev pub greatest_word : Table → ℕ
greatest_word table = max (row_width table.machine * state_count table.machine) (length table.rules)
