-- The automaton as arrays of C. The array of rows begins with a row of zeros, and then has the row of each state: for each class of bytes the target of its
-- step, as the place where that state's row begins, or 0; and then the number of the rule that it accepts plus 1, or 0.
use Rattle.std.specs.Prelude.{ℕ, ◌==◌, not, nat_lt, Bool, true, false, if◌then◌else◌, List, ◌++◌, length, codes, slice_index}
use Rattle.std.specs.List.{flat_map, list_any, range_with_len}
use Rattle.lx_automaton.specs.Automata.{Machine, state_count, start_of, accepted_by, class_target}
use Rattle.lx_tables.specs.Model.{Table}
use Rattle.lx_c.specs.Words.{row_width, row_of, target_word, rule_word, greatest_word}
use Rattle.lx_c.specs.Options.{Options}
use Rattle.lx_c.specs.Actions.{array_text}
use Rattle.lx_c.specs.Templates.{either, filled, number_then, numbered}
use Rattle.lx_c.specs.declared.templates.TheConstants.{WIDTH, CLASSES, ROWS, STARTS, LINE_BEGIN, NO_LINE_BEGIN}

-- a number of an initializer, and its comma
abbrev pub entry_text : ℕ → List ℕ
entry_text n = number_then n (codes ",")

abbrev pub zero_entries : Machine → List ℕ
zero_entries m = flat_map (λ c. entry_text 0) (range_with_len 0 (row_width m))

abbrev pub step_entries : Machine → ℕ → List ℕ
step_entries m s = flat_map (λ c. entry_text (target_word m (class_target m s c))) (range_with_len 0 m.width)

abbrev pub row_text : Machine → ℕ → List ℕ
row_text m s = step_entries m s ++ entry_text (rule_word (accepted_by m s)) ++ codes "\n"

abbrev pub row_lines : Machine → List ℕ
row_lines m = flat_map (row_text m) (range_with_len 0 (state_count m))

abbrev pub rows_text : Machine → List ℕ
rows_text m = zero_entries m ++ codes "\n" ++ row_lines m

abbrev pub class_entries : Machine → List ℕ
class_entries m = flat_map (λ b. entry_text (slice_index m.classes b)) (range_with_len 0 256)

-- the places of the rows of the states in which a condition starts, not at line begin and at line begin
abbrev pub start_line : Machine → ℕ → List ℕ
start_line m c = entry_text (row_of m (start_of m c false)) ++ entry_text (row_of m (start_of m c true)) ++ codes "\n"

abbrev pub start_lines : Machine → List ℕ
start_lines m = flat_map (start_line m) (range_with_len 0 (length m.starts))

-- the smallest type that holds all words up to this one
abbrev pub type_text : ℕ → List ℕ
type_text most = if nat_lt most 256 then codes "unsigned char" else if nat_lt most 65536 then codes "unsigned short" else codes "unsigned int"

abbrev pub word_array_head : Options → Table → List ℕ → List ℕ
word_array_head o table head = codes "static const " ++ type_text (greatest_word table) ++ filled o.prefix head

-- an array of words of the table, after its type
abbrev pub word_array : Options → Table → List ℕ → List ℕ → List ℕ
word_array o table head entries = word_array_head o table head ++ entries ++ codes "0};\n"

abbrev pub starts_differ : ℕ × ℕ → Bool
starts_differ start = not (start.0 == start.1)

-- true if a start condition has another start at line begin
abbrev pub line_begin_text : Options → Table → List ℕ
line_begin_text o table = either o (list_any starts_differ table.machine.starts) LINE_BEGIN.now NO_LINE_BEGIN.now

abbrev pub automaton_text : Options → Table → List ℕ
automaton_text o table =
    line_begin_text o table ++ numbered o WIDTH.now table.machine.width (codes "\n") ++ array_text o CLASSES.now (class_entries table.machine)
    ++ word_array o table ROWS.now (rows_text table.machine) ++ word_array o table STARTS.now (start_lines table.machine)
