-- The joined table: an automaton joined with its own restart. If a state has no step on a byte, its entry has the code of the match that ended. It
-- leads to the state of the next match after that byte, so matches are cut by one look-up a byte. The form is this project's own.
use Rattle.std.specs.Prelude.{◌≡◌, ℕ, suc, ◌+◌, ◌*◌, ◌/◌, ◌%◌, ◌<◌, ◌≤◌, ◌&&◌, nat_eq, nat_le, if◌then◌else◌, not, Bool, List, [], ◌∷◌, Option, Some, None, length, slice_index, slice_index_or}
use Rattle.lx_rules.specs.declared.rule.Step.{Step}
use Rattle.lx_rules.specs.declared.rule.Step.TheVariants.{Echo, Begin, Return}
use Rattle.lx_automaton.specs.Automata.{Machine, state_count, start_of, accepted_by, accepted_at, class_target}
use Rattle.lx_automaton.specs.EncodedOptions.{decoded_option}
use Rattle.lx_tables.specs.Model.{Table, TableRule, rule_at}
use Rattle.lx_tables.specs.declared.joined.JoinedState.{JoinedState}
use Rattle.lx_tables.specs.declared.joined.Transition.{Transition}
use Rattle.lx_tables.specs.Labels.{step_of_label}

-- a state of the joined table whose condition and state exist
pub record IsJoinedState (table : Table) (q : JoinedState) : Type 0 where
  pub condition : q.condition < length table.machine.starts
  pub state : (s : ℕ) → q.state ≡ Some s → s < state_count table.machine

-- ---- the match that has ended, as a code: 0 for none
--  a byte that no rule matches
abbrev pub echoed : Table → ℕ
echoed table = length table.rules + 1

-- the code of a match that the state alone doesn't determine
abbrev pub untold : ℕ
untold = 8191

-- the number of items that an action gives
abbrev pub item_count : List Step → ℕ
item_count [] = 0
item_count (Echo ∷ steps) = suc (item_count steps)
item_count (Begin next ∷ steps) = item_count steps
item_count (Return kind ∷ steps) = suc (item_count steps)

-- the first step of an action that gives an item, if there is one
abbrev pub giving : List Step → Option Step
giving [] = None
giving (Echo ∷ steps) = Some Echo
giving (Begin next ∷ steps) = giving steps
giving (Return kind ∷ steps) = Some (Return kind)

-- a rule's match is determined by the state in which it ends: all its bytes are the token, and its action gives at most one item
abbrev pub is_told : TableRule → Bool
is_told rule = not rule.line_end && nat_le (item_count rule.steps) 1

-- a rule with this number has ended, or none
abbrev pub rule_ended : Table → Option ℕ → ℕ
rule_ended table None = untold
rule_ended table (Some rule) = if is_told (rule_at table rule) then rule + 1 else untold

-- the match that ended in a state without a further step, or after a byte on which the start has none
abbrev pub ended : Table → Option ℕ → ℕ
ended table None = echoed table
ended table (Some s) = rule_ended table (accepted_by table.machine s)

-- ---- the condition after it
--  after an action
abbrev pub condition_behind : List Step → ℕ → ℕ
condition_behind [] condition = condition
condition_behind (Echo ∷ steps) condition = condition_behind steps condition
condition_behind (Begin next ∷ steps) condition = condition_behind steps next
condition_behind (Return kind ∷ steps) condition = condition_behind steps condition

-- after a rule, if there is one
abbrev pub condition_behind_rule : Table → Option ℕ → ℕ → ℕ
condition_behind_rule table None condition = condition
condition_behind_rule table (Some rule) condition = condition_behind (rule_at table rule).steps condition

-- ---- steps
--  after the first byte of a match: under a condition, at line begin or not, by a byte of this class, which is a newline or not
abbrev pub begun : Table → ℕ → Bool → ℕ → Bool → JoinedState
begun table condition begin class newline =
    record { condition = condition; newline = newline; state = class_target table.machine (start_of table.machine condition begin) class }

-- the target of a state on a class, if there is one
abbrev pub target_from : Machine → Option ℕ → ℕ → Option ℕ
target_from m None class = None
target_from m (Some s) class = class_target m s class

-- The match that ended before a byte of this class, which is a newline or not, and the state after the byte. The step is from the state, if it has
-- one, and else the first step of the next match. That match's condition is the one after the rule, and it is at line begin after a newline.
abbrev pub stepped : Table → JoinedState → ℕ → Bool → Option ℕ → ℕ × JoinedState
stepped table q class newline (Some next) = (0, record { condition = q.condition; newline = newline; state = Some next })
stepped table q class newline None =
    (ended table q.state, begun table (condition_behind_rule table (accepted_at table.machine q.state) q.condition) q.newline class newline)

abbrev pub joined_step : Table → JoinedState → ℕ → Bool → ℕ × JoinedState
joined_step table q class newline = stepped table q class newline (target_from table.machine q.state class)

-- ---- the same in numbers
--  a row has an entry for each class, and one more for the newline alone
abbrev pub joined_width : Table → ℕ
joined_width table = table.machine.width + 1

abbrev pub column_of : Table → ℕ → ℕ
column_of table byte = if nat_eq byte 10 then table.machine.width else slice_index table.machine.classes byte

abbrev pub encoded : Option ℕ → ℕ
encoded None = 0
encoded (Some s) = s + 1

-- the numbers go through each condition, elsewhere and after a newline, and there through none and the states of the automaton
abbrev pub joined_number : Table → JoinedState → ℕ
joined_number table q = (q.condition * 2 + (if q.newline then 1 else 0)) * (state_count table.machine + 1) + encoded q.state

abbrev pub joined_states : Table → ℕ
joined_states table = length table.machine.starts * 2 * (state_count table.machine + 1)

abbrev pub joined_len : Table → ℕ
joined_len table = joined_states table * joined_width table

-- tables with more entries have no joined table
abbrev pub max_joined_entries : ℕ
max_joined_entries = 524288

-- an entry: the begin of the state's row, and the code of the match that ended
abbrev pub joined_entry : Table → ℕ × JoinedState → Transition
joined_entry table found = record { row = joined_number table found.1 * joined_width table; code = found.0 }

-- the entry at a place
abbrev pub transition_at : List Transition → ℕ → Transition
transition_at entries k = slice_index_or entries k (record { row = 0; code = 0 })

-- The label of each code is that of its item: for a rule that of the step of its action that gives an item, for a byte that no rule matches that of
-- the echo.
pub record AreLabels (table : Table) (labels : List ℕ) : Type 0 where
  pub long : length labels ≡ length table.rules + 2
  pub rules : (rule : ℕ) → rule < length table.rules → step_of_label (slice_index labels (rule + 1)) ≡ giving (rule_at table rule).steps
  pub echo : step_of_label (slice_index labels (echoed table)) ≡ Some Echo

-- Each byte has its column. Each state has, row by row, the match that ended and the next state, which is one of the joined table again.
pub record IsJoined (table : Table) (columns : List ℕ) (entries : List Transition) (labels : List ℕ) : Type 0 where
  pub are_labels : AreLabels table labels
  pub bytes : length columns ≡ 256
  pub byte_columns : (b : ℕ) → b < 256 → slice_index columns b ≡ column_of table b
  pub below : (k : ℕ) → slice_index columns k < joined_width table
  pub long : length entries ≡ joined_len table
  pub rows : (k : ℕ) → (transition_at entries k).row + joined_width table ≤ length entries
  pub known : (q : JoinedState) (b : ℕ) → IsJoinedState table q → b < 256 → IsJoinedState table (joined_step table q (slice_index table.machine.classes b) (nat_eq b 10)).1
  pub each : (q : JoinedState) (b : ℕ) → IsJoinedState table q → b < 256 →
      transition_at entries (joined_number table q * joined_width table + column_of table b) ≡ joined_entry table (joined_step table q (slice_index table.machine.classes b) (nat_eq b 10))

-- ---- while it is made
-- the state with a number
abbrev pub joined_state_at : Table → ℕ → JoinedState
joined_state_at table number = record {
  condition = number / (state_count table.machine + 1) / 2;
  newline = nat_eq (number / (state_count table.machine + 1) % 2) 1;
  state = decoded_option (number % (state_count table.machine + 1));
}

-- the class of a column
abbrev pub class_of_column : Table → ℕ → ℕ
class_of_column table column = if nat_eq column table.machine.width then slice_index table.machine.classes 10 else column

-- the first n entries
pub record AreEntries (table : Table) (entries : List Transition) (n : ℕ) : Type 0 where
  pub long : length entries ≡ n
  pub rows : (k : ℕ) → (transition_at entries k).row + joined_width table ≤ joined_len table
  pub each : (i c : ℕ) → c < joined_width table → i * joined_width table + c < n →
      transition_at entries (i * joined_width table + c) ≡ joined_entry table (joined_step table (joined_state_at table i) (class_of_column table c) (nat_eq c table.machine.width))
