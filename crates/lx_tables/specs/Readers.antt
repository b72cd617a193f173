-- A mirror of `lenient`: the values read at the front of a text, whatever it is. Total functions give a value and the text after it. They skip words
-- by their length, and read an impossible value as another, so the result has to be compared with the text afterwards. The contract of `Tables::read`
-- says that it is the text's table. That there is no other is a law, `texts_are_one_to_one`.
use Rattle.std.specs.Prelude.{ℕ, zero, suc, ◌+◌, ◌*◌, ◌-◌, ◌/◌, ◌==◌, nat_lt, min, if◌then◌else◌, List, [], ◌∷◌, ◌++◌, Option, Some, None, drop, length, map, replicate, slice_index}
use Rattle.std.specs.List.{flat_map, range_with_len}
use Rattle.std.specs.Char.{is_ascii_digit}
use Rattle.lx_rules.specs.declared.rule.Kind.TheVariants.{Name, Number}
use Rattle.lx_rules.specs.declared.rule.Step.{Step}
use Rattle.lx_rules.specs.declared.rule.Step.TheVariants.{Echo, Begin, Return}
use Rattle.lx_rules.specs.Limits.{max_start_conditions, max_kinds, max_rules}
use Rattle.lx_automaton.specs.Automata.{state_count, target_of, max_states}
use Rattle.lx_tables.specs.Model.{TableRule, Table}
use Rattle.lx_tables.specs.Texts.{all_bytes}
use Rattle.lx_tables.specs.declared.version.Version.{Version}
use Rattle.lx_tables.specs.declared.version.Version.TheVariants.{First, Second}

-- the number that digits spell after those of n; it stays below 2 ^ 32
abbrev pub read_digits : ℕ → List ℕ → ℕ × List ℕ
read_digits n [] = (n, [])
read_digits n (b ∷ bs) = if is_ascii_digit b then read_digits (if nat_lt n 429496729 then 10 * n + (b - 48) else n) bs else (n, b ∷ bs)

-- a number after the skipped bytes, and one byte; a number above `most` is read as `most`
abbrev pub read_count : ℕ → ℕ → List ℕ → ℕ × List ℕ
read_count most skipped text = let n = read_digits 0 (drop skipped text) in (min most n.0, drop 1 n.1)

-- the number, if it is below the limit
abbrev pub below : ℕ → ℕ → Option ℕ
below limit n = if nat_lt n limit then Some n else None

-- n, but at least `low` and at most `high`
abbrev pub within : ℕ → ℕ → ℕ → ℕ
within low high n = low + (min high n - low)

abbrev pub read_start : List ℕ → (ℕ × ℕ) × List ℕ
read_start text =
    let s = read_digits 0 (drop 6 text) in
    let t = read_digits 0 (drop 1 s.1) in
    ((s.0, t.0), drop 1 t.1)

-- n values, one after the other
abbrev pub read_many : {A : Type 0} → (List ℕ → A × List ℕ) → ℕ → List ℕ → List A × List ℕ
read_many read zero text = ([], text)
read_many read (suc n) text =
    let first = read text in
    let more = read_many read n first.1 in
    (first.0 ∷ more.0, more.1)

-- a count, at most `most`, and that number of values
abbrev pub read_list : {A : Type 0} → ℕ → ℕ → (List ℕ → A × List ℕ) → List ℕ → List A × List ℕ
read_list most skipped read text = let n = read_count most skipped text in read_many read n.0 n.1

-- values before those that are read
abbrev pub onto : {A : Type 0} → List A → List A × List ℕ → List A × List ℕ
onto xs more = (xs ++ more.0, more.1)

-- a line
abbrev pub read_line : List ℕ → List ℕ × List ℕ
read_line [] = ([], [])
read_line (b ∷ bs) = if b == 10 then ([], bs) else (b ∷ (read_line bs).0, (read_line bs).1)

abbrev pub read_kind : List ℕ → List ℕ × List ℕ
read_kind text = read_line (drop 5 text)

-- the step of a letter with a number
abbrev pub step_of : ℕ → ℕ → Step
step_of letter n =
    if letter == 98 then (if nat_lt n max_start_conditions then Begin n else Echo)
    else if letter == 107 then Return (Name n) else Return (Number n)

-- a step after its space
abbrev pub read_step : List ℕ → Step × List ℕ
read_step [] = (Echo, [])
read_step (letter ∷ text) = if letter == 101 then (Echo, text) else (let n = read_digits 0 text in (step_of letter n.0, n.1))

-- the steps up to the line's end, at most `most`
abbrev pub read_steps : ℕ → List ℕ → List Step × List ℕ
read_steps zero text = ([], drop 1 text)
read_steps (suc most) text =
    if slice_index text 0 == 32 then
    (let step = read_step (drop 1 text) in
    let more = read_steps most step.1 in
    (step.0 ∷ more.0, more.1))
    else ([], drop 1 text)

abbrev pub read_rule : List ℕ → TableRule × List ℕ
read_rule text = let steps = read_steps (length text) (drop 6 text) in (record { line_end = slice_index text 5 == 49; steps = steps.0 }, steps.1)

-- conditions, kinds and rules
pub record Front : Type 0 where
  pub starts : List (ℕ × ℕ)
  pub kinds : List (List ℕ)
  pub rules : List TableRule

abbrev pub read_front : List ℕ → Front × List ℕ
read_front text =
    let starts = read_list max_start_conditions 11 read_start text in
    let kinds = read_list max_kinds 6 read_kind starts.1 in
    let rules = read_list max_rules 6 read_rule kinds.1 in
    (record { starts = starts.0; kinds = kinds.0; rules = rules.0 }, rules.1)

-- `-`, or a rule
abbrev pub read_accepts : List ℕ → Option ℕ × List ℕ
read_accepts text = let n = read_digits 0 text in if slice_index n.1 0 == 45 then (None, drop 1 n.1) else (below max_rules n.0, n.1)

-- one range: its first byte, the one after its last, and its value
abbrev pub read_range : List ℕ → (ℕ × ℕ × ℕ) × List ℕ
read_range text =
    let low = read_digits 0 (drop 1 text) in
    let high = read_digits 0 (drop 1 low.1) in
    let value = read_digits 0 (drop 1 high.1) in
    ((low.0, high.0 + 1, value.0), value.1)

-- one entry: its class, the next one, and its target
abbrev pub read_entry : List ℕ → (ℕ × ℕ × ℕ) × List ℕ
read_entry text =
    let class = read_digits 0 (drop 1 text) in
    let target = read_digits 0 (drop 1 class.1) in
    ((class.0, class.0 + 1, target.0), target.1)

-- a run of places with one value, by the version: a range of bytes, or one class
abbrev pub read_run : Version → List ℕ → (ℕ × ℕ × ℕ) × List ℕ
read_run First text = read_range text
read_run Second text = read_entry text

-- The values of places `from` to `width`, by at most `most` runs. A run begins at the end of the one before it or later; a place without a run has no
-- value.
abbrev pub read_row : Version → ℕ → ℕ → ℕ → List ℕ → List (Option ℕ) × List ℕ
read_row version width zero from text = (replicate (width - from) None, text)
read_row version width (suc most) from text =
    if slice_index text 0 == 32 then
    (let run = read_run version text in
    let low = within from width run.0.0 in
    let end = within low width run.0.1 in
    let more = read_row version width most end run.1 in
    (replicate (low - from) None ++ replicate (end - low) (below max_states run.0.2) ++ more.0, more.1))
    else (replicate (width - from) None, text)

-- the line of a state: the rule that it accepts, and its row
abbrev pub read_state : Version → ℕ → List ℕ → (Option ℕ × List (Option ℕ)) × List ℕ
read_state version width text =
    let rule = read_accepts (drop 6 text) in
    let row = read_row version width width 0 rule.1 in
    ((rule.0, row.0), drop 1 row.1)

-- rules and rows before a state that is read
abbrev pub state_onto : List (Option ℕ) → List (Option ℕ) → (Option ℕ × List (Option ℕ)) × List ℕ → List (Option ℕ) × List (Option ℕ) × List ℕ
state_onto accepted targets state = (accepted ++ state.0.0 ∷ [], targets ++ state.0.1, state.1)

-- the lines of n states: the rules that they accept, and their rows one after the other
abbrev pub read_lines : Version → ℕ → ℕ → List ℕ → List (Option ℕ) × List (Option ℕ)
read_lines version width zero text = ([], [])
read_lines version width (suc n) text =
    let state = read_state version width text in
    let more = read_lines version width n state.1 in
    (state.0.0 ∷ more.0, state.0.1 ++ more.1)

-- a count of states and their lines, which have at least 8 bytes each
abbrev pub read_states : Version → ℕ → List ℕ → List (Option ℕ) × List (Option ℕ)
read_states version width text = let n = read_count (min max_states (length text / 8)) 7 text in read_lines version width n.0 n.1

-- the class that was read for a byte
abbrev pub class_of : Option ℕ → ℕ
class_of None = 0
class_of (Some n) = if nat_lt n 256 then n else 0

-- the class of each byte
abbrev pub read_classes : List ℕ → List ℕ × List ℕ
read_classes text = let row = read_row First 256 256 0 text in (map class_of row.0, row.1)

abbrev pub table_of : Front → List ℕ → ℕ → List (Option ℕ) × List (Option ℕ) → Table
table_of front classes width states = record {
  machine = record { starts = front.starts; classes = classes; width = width; accepted = states.0; targets = states.1 };
  kinds = front.kinds;
  rules = front.rules;
}

-- A text of version 1: the table by bytes, each of which is a class of its own.
abbrev pub read_1 : List ℕ → Table
read_1 text = let front = read_front (drop 12 text) in table_of front.0 all_bytes 256 (read_states First 256 front.1)

-- A text of version 2.
abbrev pub read_2 : List ℕ → Table
read_2 text =
    let front = read_front (drop 12 text) in
    let width = read_count 256 8 front.1 in
    let classes = read_classes (drop 5 width.1) in
    table_of front.0 classes.0 width.0 (read_states Second width.0 (drop 1 classes.1))

-- a text, by the digit of its version
abbrev pub read_text : List ℕ → Table
read_text text = if slice_index text 10 == 50 then read_2 text else read_1 text

-- the same table by bytes
abbrev pub by_bytes : Table → Table
by_bytes t = record {
  machine = record {
    starts = t.machine.starts;
    classes = all_bytes;
    width = 256;
    accepted = t.machine.accepted;
    targets = flat_map (λ s. map (λ b. target_of t.machine s b) all_bytes) (range_with_len 0 (state_count t.machine));
  };
  kinds = t.kinds;
  rules = t.rules;
}
