-- The parts of lines that the printer chooses among.
use Rattle.std.specs.Prelude.{ℕ, ◌<◌, List, ◌++◌, Option, Some, codes, slice_index}
use Rattle.lx_automaton.specs.Automata.{Machine, state_count, accepted_by, target_of}
use Rattle.lx_tables.specs.Texts.{byte_ranges, entries_text, accepts_text}
use Rattle.lx_tables.specs.declared.byte_values.ByteValues.{ByteValues}
use Rattle.lx_tables.specs.declared.byte_values.ByteValues.TheVariants.{Classes, Targets}
use Rattle.lx_tables.specs.declared.version.Version.{Version}
use Rattle.lx_tables.specs.declared.version.Version.TheVariants.{First, Second}

-- the value of a byte
abbrev pub value_of : Machine → ByteValues → ℕ → Option ℕ
value_of m Classes byte = Some (slice_index m.classes byte)
value_of m (Targets s) byte = target_of m s byte

-- the state exists
abbrev pub HasState : Machine → ByteValues → Type 0
HasState m Classes = Unit {0}
HasState m (Targets s) = s < state_count m

-- the targets of a state, and its line, by the version
abbrev pub targets_text : Version → Machine → ℕ → List ℕ
targets_text First m s = byte_ranges (value_of m (Targets s))
targets_text Second m s = entries_text m s

abbrev pub state_line : Version → Machine → ℕ → List ℕ
state_line version m s = codes "state " ++ accepts_text (accepted_by m s) ++ targets_text version m s ++ codes "\n"
