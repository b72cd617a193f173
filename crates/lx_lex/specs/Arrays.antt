-- The arrays of a scanner with actions in C. A row has for each class of bytes the place of the target's row, or 0; then the number of the rule that the state
-- accepts, from 1, or 0; and then a 0. Byte 0 ends what was read, so it has the class of that last column; a NUL of the text itself has a class like any other byte.
use Rattle.std.specs.Prelude.{◌≡◌, ℕ, ◌+◌, ◌*◌, ◌==◌, true, false, max, if◌then◌else◌, Option, Some, None, List, ◌++◌, length, codes, slice_index}
use Rattle.std.specs.List.{flat_map, range_with_len}
use Rattle.lx_automaton.specs.Automata.{Machine, state_count, start_of, accepted_by, class_target}
use Rattle.lx_c.specs.Rows.{type_text}
use Rattle.lx_c.specs.Templates.{number_then}
use Rattle.lx_c.specs.Words.{rule_word}
use Rattle.lx_tables.specs.Model.{Table}

abbrev pub row_width : Machine → ℕ
row_width m = m.width + 2

-- the place where the row of a state begins
abbrev pub row_of : Machine → ℕ → ℕ
row_of m s = (s + 1) * row_width m

abbrev pub target_word : Machine → Option ℕ → ℕ
target_word m None = 0
target_word m (Some s) = row_of m s

-- the class of the byte that ends what was read
abbrev pub end_class : Machine → ℕ
end_class m = m.width + 1

abbrev pub class_word : Machine → ℕ → ℕ
class_word m b = if b == 0 then end_class m else slice_index m.classes b

-- no word of a row is greater, if the states accept numbers below `numbers`
abbrev pub greatest_word : Machine → ℕ → ℕ
greatest_word m numbers = max (row_width m * state_count m) numbers

-- a number of an initializer, and its comma
abbrev pub entry_text : ℕ → List ℕ
entry_text n = number_then n (codes ",")

abbrev pub class_entries : Machine → List ℕ
class_entries m = flat_map (λ b. entry_text (class_word m b)) (range_with_len 0 256)

abbrev pub zero_entries : Machine → List ℕ
zero_entries m = flat_map (λ c. entry_text 0) (range_with_len 0 (row_width m))

abbrev pub step_entries : Machine → ℕ → List ℕ
step_entries m s = flat_map (λ c. entry_text (target_word m (class_target m s c))) (range_with_len 0 m.width)

abbrev pub row_text : Machine → ℕ → List ℕ
row_text m s = step_entries m s ++ entry_text (rule_word (accepted_by m s)) ++ codes "0,\n"

abbrev pub rows_text : Machine → List ℕ
rows_text m = zero_entries m ++ codes "\n" ++ flat_map (row_text m) (range_with_len 0 (state_count m))

-- the places of the rows of the states in which a condition starts, not at line begin and at line begin
abbrev pub start_line : Machine → ℕ → List ℕ
start_line m c = entry_text (row_of m (start_of m c false)) ++ entry_text (row_of m (start_of m c true)) ++ codes "\n"

abbrev pub start_lines : Machine → List ℕ
start_lines m = flat_map (start_line m) (range_with_len 0 (length m.starts))

-- the beginning of an array whose numbers are at most this
abbrev pub head_text : ℕ → List ℕ → List ℕ
head_text most name = codes "static const " ++ type_text most ++ codes " " ++ name

-- the name of an array, after the beginning of all names
abbrev pub named : List ℕ → List ℕ → List ℕ
named prefix name = prefix ++ name ++ codes "[] = {\n"

abbrev pub class_array : List ℕ → Machine → List ℕ
class_array prefix m = head_text (end_class m) (named prefix (codes "class")) ++ class_entries m ++ codes "0};\n"

abbrev pub row_array : List ℕ → Machine → ℕ → List ℕ
row_array prefix m numbers = head_text (greatest_word m numbers) (named prefix (codes "rows")) ++ rows_text m ++ codes "0};\n"

abbrev pub start_array : List ℕ → Machine → ℕ → List ℕ
start_array prefix m numbers = head_text (greatest_word m numbers) (named prefix (codes "first")) ++ start_lines m ++ codes "0};\n"

-- the classes of bytes, the rows of states, and the starts of conditions, of an automaton whose states accept numbers below `numbers`; the names of the arrays
-- begin with the prefix
unfoldable pub arrays_text : List ℕ → Machine → ℕ → List ℕ
arrays_text prefix m numbers = class_array prefix m ++ row_array prefix m numbers ++ start_array prefix m numbers

-- The text has the arrays of the table, one after the other.
pub record HasArrays (table : Table) (text : List ℕ) : Type 0 where
  pub before : List ℕ
  pub after : List ℕ
  pub parts : text ≡ before ++ (arrays_text (codes "yy_") table.machine (length table.rules) ++ after)

-- the classes of bytes and the rows of states of a table that finds the ends of tokens
unfoldable pub cut_arrays_text : Table → List ℕ
cut_arrays_text table = class_array (codes "yy_cut_") table.machine ++ row_array (codes "yy_cut_") table.machine (length table.rules)

-- The text has these arrays of the table.
pub record HasCutArrays (table : Table) (text : List ℕ) : Type 0 where
  pub before : List ℕ
  pub after : List ℕ
  pub parts : text ≡ before ++ (cut_arrays_text table ++ after)
