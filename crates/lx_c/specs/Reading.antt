-- The arrays, as C reads them.
use Rattle.std.specs.Prelude.{◌≡◌, ℕ, ◌+◌, ◌*◌, ◌-◌, ◌==◌, if◌then◌else◌, List, [], ◌∷◌, ◌++◌, length, map, codes, ◌<◌, Bool, true, false}
use Rattle.std.specs.Char.{is_ascii_digit}
use Rattle.std.specs.List.{flat_map, range_with_len}
use Rattle.lx_automaton.specs.Automata.{Machine, IsMachine, state_count, start_of, accepted_by, class_target}
use Rattle.lx_rules.specs.declared.rule.Kind.TheVariants.{Name, Number}
use Rattle.lx_rules.specs.declared.rule.Step.{Step}
use Rattle.lx_rules.specs.declared.rule.Step.TheVariants.{Echo, Begin, Return}
use Rattle.lx_tables.specs.Model.{Table, rule_at}
use Rattle.lx_c.specs.Options.{Options}
use Rattle.lx_c.specs.Numbers.{first_kind}
use Rattle.lx_c.specs.Actions.{step_entry, action_entries, line_end_entries}
use Rattle.lx_c.specs.Rows.{class_entries, rows_text, start_lines}
use Rattle.lx_c.specs.Words.{row_width, row_of, target_word, rule_word}

-- the numbers between braces (C99, 6.7.8): digits make a number, after those of n, a comma ends it, and all else is skipped
abbrev pub read_words : ℕ → List ℕ → List ℕ
read_words n [] = []
read_words n (b ∷ bs) =
    if is_ascii_digit b then read_words (10 * n + (b - 48)) bs
    else if b == 44 then n ∷ read_words 0 bs
    else read_words n bs

-- the words of the row of a state
abbrev pub row_words : Machine → ℕ → List ℕ
row_words m s = map (λ c. target_word m (class_target m s c)) (range_with_len 0 m.width) ++ (rule_word (accepted_by m s) ∷ [])

-- the words of all rows, one after the other
abbrev pub rows_words : Machine → List ℕ
rows_words m = map (λ c. 0) (range_with_len 0 (row_width m)) ++ flat_map (row_words m) (range_with_len 0 (state_count m))

abbrev pub start_words : Machine → List ℕ
start_words m = flat_map (λ c. row_of m (start_of m c false) ∷ (row_of m (start_of m c true) ∷ [])) (range_with_len 0 (length m.starts))

-- the numbers of the arrays are the automaton's, in their order
pub record HaveTheWords (m : Machine) : Type 0 where
  pub classes : read_words 0 (class_entries m) ≡ m.classes
  pub rows : read_words 0 (rows_text m) ≡ rows_words m
  pub starts : read_words 0 (start_lines m) ≡ start_words m

-- the numbers between braces, each after a `-` or none: true if it is negative, and its digits' number
abbrev pub read_signed : Bool → ℕ → List ℕ → List (Bool × ℕ)
read_signed minus n [] = []
read_signed minus n (b ∷ bs) =
    if is_ascii_digit b then read_signed minus (10 * n + (b - 48)) bs
    else if b == 45 then read_signed true n bs
    else if b == 44 then (minus, n) ∷ read_signed false 0 bs
    else read_signed minus n bs

-- a step as a number with its sign, if the first kind has this number
abbrev pub step_number : ℕ → Step → Bool × ℕ
step_number first Echo = (true, 2)
step_number first (Begin c) = (true, 4 + c)
step_number first (Return (Name k)) = (false, first + k)
step_number first (Return (Number n)) = (false, n)

-- the number that an action gives at once
abbrev pub action_number : ℕ → List Step → Bool × ℕ
action_number first [] = (true, 1)
action_number first (Return kind ∷ steps) = step_number first (Return kind)
action_number first (Echo ∷ steps) = (true, 4)
action_number first (Begin c ∷ steps) = (true, 4)

-- the numbers of the arrays of actions are those of the table's rules, in their order; and 1 for a rule that ends with `$`
pub record HaveTheActions (o : Options) (table : Table) : Type 0 where
  pub steps : (r : ℕ) → r < length table.rules →
      read_signed false 0 (flat_map (step_entry o (first_kind table) table) (rule_at table r).steps ++ codes "-1};\n") ≡ map (step_number (first_kind table)) (rule_at table r).steps
  pub actions : read_signed false 0 (action_entries o (first_kind table) table) ≡ map (λ r. action_number (first_kind table) (rule_at table r).steps) (range_with_len 0 (length table.rules))
  pub line_ends : read_words 0 (line_end_entries table) ≡ map (λ r. if (rule_at table r).line_end then 1 else 0) (range_with_len 0 (length table.rules))

-- Automata of one width whose arrays are printed alike are the same.
pub record IsOneToOne : Type 0 where
  pub same : (m n : Machine) → IsMachine m → IsMachine n → m.width ≡ n.width → class_entries m ≡ class_entries n → rows_text m ≡ rows_text n →
      start_lines m ≡ start_lines n → m ≡ n
