-- The text of tables in its two versions (this project's own): ASCII, each line ended by LF, one space between fields, numbers in decimal without leading zeros.
-- Version 1 has the steps of a state by ranges of bytes, version 2 by classes of bytes.
use Rattle.std.specs.Prelude.{ℕ, ◌+◌, ◌==◌, Bool, true, false, if◌then◌else◌, List, [], ◌∷◌, ◌++◌, Option, Some, None, length, map, codes, decimal, slice_index}
use Rattle.std.specs.List.{flat_map, range_with_len}
use Rattle.lx_rules.specs.declared.rule.Kind.TheVariants.{Name, Number}
use Rattle.lx_rules.specs.declared.rule.Step.{Step}
use Rattle.lx_rules.specs.declared.rule.Step.TheVariants.{Echo, Begin, Return}
use Rattle.lx_automaton.specs.Automata.{Machine, state_count, accepted_by, class_target, target_of}
use Rattle.lx_tables.specs.Model.{TableRule, Table}

-- `decimal`, opened only if a proof says so
abbrev pub number : ℕ → List ℕ
number n = decimal n

-- `start S T`: the state without line begin, the state at line begin
abbrev pub start_line : ℕ × ℕ → List ℕ
start_line start = codes "start " ++ number start.0 ++ codes " " ++ number start.1 ++ codes "\n"

abbrev pub kind_line : List ℕ → List ℕ
kind_line name = codes "kind " ++ name ++ codes "\n"

-- a space, and the step: ECHO, BEGIN of a condition, return of a kind or of a number
abbrev pub step_text : Step → List ℕ
step_text Echo = codes " e"
step_text (Begin c) = codes " b" ++ number c
step_text (Return (Name k)) = codes " k" ++ number k
step_text (Return (Number n)) = codes " n" ++ number n

-- 1 if the rule ends with `$`
abbrev pub line_end_text : Bool → List ℕ
line_end_text true = codes "1"
line_end_text false = codes "0"

-- `rule Q` and steps
abbrev pub rule_line : TableRule → List ℕ
rule_line rule = codes "rule " ++ line_end_text rule.line_end ++ flat_map step_text rule.steps ++ codes "\n"

-- bytes `low` to `high`, if they have a value
abbrev pub range_text : ℕ → ℕ → Option ℕ → List ℕ
range_text low high None = []
range_text low high (Some value) = codes " " ++ number low ++ codes "-" ++ number high ++ codes ":" ++ number value

abbrev pub same_value : Option ℕ → Option ℕ → Bool
same_value None None = true
same_value None (Some n) = false
same_value (Some m) None = false
same_value (Some m) (Some n) = m == n

-- the ranges of a run of one value from `low` to `high`, and of the values after it
abbrev pub ranges_from : ℕ → ℕ → Option ℕ → List (Option ℕ) → List ℕ
ranges_from low high value [] = range_text low high value
ranges_from low high value (other ∷ more) =
    if same_value value other then ranges_from low (high + 1) value more
    else range_text low high value ++ ranges_from (high + 1) (high + 1) other more

-- the ranges of one value: as long as possible, and none without a value
abbrev pub ranges_text : List (Option ℕ) → List ℕ
ranges_text [] = []
ranges_text (value ∷ more) = ranges_from 0 0 value more

unfoldable pub all_bytes : List ℕ
all_bytes = range_with_len 0 256

-- the ranges of the 256 bytes by their values
abbrev pub byte_ranges : (ℕ → Option ℕ) → List ℕ
byte_ranges value = ranges_text (map value all_bytes)

-- `-`, or the accepted rule
abbrev pub accepts_text : Option ℕ → List ℕ
accepts_text None = codes "-"
accepts_text (Some rule) = number rule

-- a class that goes to a state; nothing if it has no step
abbrev pub entry_text : ℕ → Option ℕ → List ℕ
entry_text class None = []
entry_text class (Some target) = codes " " ++ number class ++ codes ":" ++ number target

-- the classes that go to states from this one
abbrev pub entries_text : Machine → ℕ → List ℕ
entries_text m s = flat_map (λ class. entry_text class (class_target m s class)) (range_with_len 0 m.width)

-- `state A` and ranges of bytes that go to states
abbrev pub state_line_1 : Machine → ℕ → List ℕ
state_line_1 m s = codes "state " ++ accepts_text (accepted_by m s) ++ byte_ranges (λ b. target_of m s b) ++ codes "\n"

-- `state A` and classes that go to states
abbrev pub state_line_2 : Machine → ℕ → List ℕ
state_line_2 m s = codes "state " ++ accepts_text (accepted_by m s) ++ entries_text m s ++ codes "\n"

-- a word, a number and LF
abbrev pub count_line : List ℕ → ℕ → List ℕ
count_line word n = word ++ number n ++ codes "\n"

-- the part that both versions have: conditions, kinds and rules
abbrev pub front_text : Table → List ℕ
front_text table =
    count_line (codes "conditions ") (length table.machine.starts) ++ flat_map start_line table.machine.starts
    ++ count_line (codes "kinds ") (length table.kinds) ++ flat_map kind_line table.kinds
    ++ count_line (codes "rules ") (length table.rules) ++ flat_map rule_line table.rules

-- `class` and ranges: the class of each byte
abbrev pub class_line : Machine → List ℕ
class_line m = codes "class" ++ byte_ranges (λ b. Some (slice_index m.classes b)) ++ codes "\n"

-- the states, by the line of each, and the end
abbrev pub states_text : (Machine → ℕ → List ℕ) → Machine → List ℕ
states_text line m = count_line (codes "states ") (state_count m) ++ flat_map (λ s. line m s) (range_with_len 0 (state_count m)) ++ codes "end\n"

-- the text of version 1
abbrev pub text_1 : Table → List ℕ
text_1 table = codes "lx-tables 1\n" ++ front_text table ++ states_text state_line_1 table.machine

-- the text of version 2
abbrev pub text_2 : Table → List ℕ
text_2 table =
    codes "lx-tables 2\n" ++ front_text table ++ count_line (codes "classes ") table.machine.width ++ class_line table.machine
    ++ states_text state_line_2 table.machine
