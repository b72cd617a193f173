-- The labels of the graph's nodes and edges. In a DOT label, a backslash is doubled.
use Rattle.std.specs.Prelude.{ℕ, ◌+◌, ◌-◌, ◌/◌, ◌%◌, ◌==◌, nat_lt, ◌&&◌, ◌||◌, not, Bool, false, if◌then◌else◌, List, [], ◌∷◌, ◌++◌, Option, Some, None, codes, decimal, length, slice_index_or}
use Rattle.std.specs.List.{flat_map, range_with_len}
use Rattle.lx_rules.specs.declared.rule.Kind.{Kind}
use Rattle.lx_rules.specs.declared.rule.Kind.TheVariants.{Name, Number}
use Rattle.lx_rules.specs.declared.rule.Step.{Step}
use Rattle.lx_rules.specs.declared.rule.Step.TheVariants.{Echo, Begin, Return}
use Rattle.lx_automaton.specs.Automata.{Machine, target_of}
use Rattle.lx_tables.specs.Model.{Table, TableRule, kind_at}

-- a lower-case hexadecimal digit
abbrev pub small_digit : ℕ → ℕ
small_digit n = if nat_lt n 10 then 48 + n else 87 + n

-- the bytes that are shown unchanged: those of 33 to 126, except for the quote, the backslash, and those with a special meaning in brackets
abbrev pub is_plain : ℕ → Bool
is_plain byte = nat_lt 32 byte && (nat_lt byte 127 && not (byte == 34 || (byte == 45 || (byte == 94 || (byte == 91 || (byte == 92 || byte == 93))))))

-- a byte in a label: as it is, or `\xHH`
abbrev pub byte_label : ℕ → List ℕ
byte_label byte = if is_plain byte then byte ∷ [] else codes "\\\\x" ++ (small_digit (byte / 16) ∷ small_digit (byte % 16) ∷ [])

-- true if the target is this one
abbrev pub is_target : ℕ → Option ℕ → Bool
is_target t None = false
is_target t (Some s) = s == t

-- true if state s steps to t on a byte
abbrev pub leads : Machine → ℕ → ℕ → ℕ → Bool
leads m s t byte = is_target t (target_of m s byte)

-- true if a range of bytes begins with this one
abbrev pub opens : (ℕ → Bool) → ℕ → Bool
opens taken byte = byte == 0 || not (taken (byte - 1))

-- true if a range of bytes ends with this one
abbrev pub closes : (ℕ → Bool) → ℕ → Bool
closes taken byte = byte == 255 || not (taken (byte + 1))

abbrev pub open_label : Bool → ℕ → List ℕ
open_label closed byte = codes "[" ++ (byte_label byte ++ (if closed then codes "]" else []))

abbrev pub close_label : Bool → ℕ → List ℕ
close_label closed byte = if closed then codes "-" ++ (byte_label byte ++ codes "]") else []

-- the part that a byte adds to the ranges of the bytes that are taken: `[a-z]`, `[a]`
abbrev pub range_part : (ℕ → Bool) → ℕ → List ℕ
range_part taken byte =
    if taken byte then (if opens taken byte then open_label (closes taken byte) byte else close_label (closes taken byte) byte)
    else []

-- the ranges of the bytes on which state s steps to t
unfoldable pub ranges : Machine → ℕ → ℕ → List ℕ
ranges m s t = flat_map (range_part (leads m s t)) (range_with_len 0 256)

-- a condition by its name, or by its number if its name isn't known
abbrev pub condition_label : List (List ℕ) → ℕ → List ℕ
condition_label names c = if nat_lt c (length names) then slice_index_or names c [] else decimal c

abbrev pub kind_label : Table → Kind → List ℕ
kind_label table (Name k) = kind_at table k
kind_label table (Number n) = decimal n

-- a step of an action, on a line of its own
abbrev pub step_label : Table → List (List ℕ) → Step → List ℕ
step_label table names Echo = codes "\\nECHO"
step_label table names (Begin c) = codes "\\nBEGIN " ++ condition_label names c
step_label table names (Return kind) = codes "\\n" ++ kind_label table kind

-- the action of a rule: its steps, or `;` for none; and `$` before it if the rule ends with one
abbrev pub action_label : Table → List (List ℕ) → TableRule → List ℕ
action_label table names rule =
    (if rule.line_end then codes "\\n$" else [])
    ++ (if length rule.steps == 0 then codes "\\n;" else flat_map (step_label table names) rule.steps)
