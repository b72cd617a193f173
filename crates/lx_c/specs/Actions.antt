-- The arrays of what rules do. The steps of an action are numbers: a kind or a number that is returned, -2 for ECHO, -4 - c for BEGIN of the condition c, and -1
-- after the last one. An array of rules has a 0 for no rule, an entry for each rule, and then a 0 that closes it; an array of kinds has no first 0.
use Rattle.std.specs.Prelude.{ℕ, ◌+◌, Bool, true, false, if◌then◌else◌, List, [], ◌∷◌, ◌++◌, length, codes}
use Rattle.std.specs.List.{flat_map, list_any, range_with_len}
use Rattle.lx_rules.specs.declared.rule.Kind.TheVariants.{Name, Number}
use Rattle.lx_rules.specs.declared.rule.Step.{Step}
use Rattle.lx_rules.specs.declared.rule.Step.TheVariants.{Echo, Begin, Return}
use Rattle.lx_tables.specs.Texts.{number}
use Rattle.lx_tables.specs.Model.{Table, rule_at, kind_at}
use Rattle.lx_c.specs.Options.{Options, has_file}
use Rattle.lx_c.specs.Templates.{either, filled, number_then}
use Rattle.lx_c.specs.declared.templates.TheConstants.{STEP_ARRAY, STEPS_OF, STEPS, ACTIONS, LINE_ENDS, NAMES, KINDS, LINE_END, NO_LINE_END, PENDING, NOTHING_PENDING}

-- a step; a kind is its number if the first kind has this one, or its name if a file declares the kinds
abbrev pub step_word : Options → ℕ → Table → Step → List ℕ
step_word o first table Echo = codes "-2"
step_word o first table (Begin c) = codes "-" ++ number (4 + c)
step_word o first table (Return (Name k)) = if has_file o.include then kind_at table k else number (first + k)
step_word o first table (Return (Number n)) = number n

abbrev pub step_entry : Options → ℕ → Table → Step → List ℕ
step_entry o first table step = step_word o first table step ++ codes ","

-- an action that is nothing or one return has no steps of its own
abbrev pub is_simple : List Step → Bool
is_simple [] = true
is_simple (Return kind ∷ steps) = true
is_simple (Echo ∷ steps) = false
is_simple (Begin c ∷ steps) = false

-- the array of the steps of a rule
abbrev pub steps_array : Options → ℕ → Table → ℕ → List Step → List ℕ
steps_array o first table r steps =
    if is_simple steps then []
    else filled o.prefix STEP_ARRAY.now ++ number_then r (codes "[] = {") ++ flat_map (step_entry o first table) steps ++ codes "-1};\n"

-- the place of the steps of a rule
abbrev pub steps_entry : Options → ℕ → List Step → List ℕ
steps_entry o r steps = if is_simple steps then codes "0,\n" else filled o.prefix STEPS_OF.now ++ number_then r (codes ",\n")

-- the number that an action gives at once: a kind, -1 for nothing, or -4 if its steps are performed
abbrev pub action_word : Options → ℕ → Table → List Step → List ℕ
action_word o first table [] = codes "-1"
action_word o first table (Return kind ∷ steps) = step_word o first table (Return kind)
action_word o first table (Echo ∷ steps) = codes "-4"
action_word o first table (Begin c ∷ steps) = codes "-4"

abbrev pub action_entry : Options → ℕ → Table → List Step → List ℕ
action_entry o first table steps = action_word o first table steps ++ codes ",\n"

-- 1 if the rule ends with `$`, so that the last byte of a match isn't part of the token
abbrev pub line_end_entry : Bool → List ℕ
line_end_entry line_end = if line_end then codes "1,\n" else codes "0,\n"

-- the name of a kind, between quotes or without
abbrev pub kind_entry : List ℕ → List ℕ → List ℕ
kind_entry quote kind = quote ++ kind ++ quote ++ codes ",\n"

-- an entry for each rule, for each kind
abbrev pub of_rules : Table → (ℕ → List ℕ) → List ℕ
of_rules table entry = flat_map entry (range_with_len 0 (length table.rules))

abbrev pub kind_entries : Table → List ℕ → List ℕ
kind_entries table quote = flat_map (λ k. kind_entry quote (kind_at table k)) (range_with_len 0 (length table.kinds))

-- an array
abbrev pub array_text : Options → List ℕ → List ℕ → List ℕ
array_text o head entries = filled o.prefix head ++ entries ++ codes "0};\n"

abbrev pub line_end_entries : Table → List ℕ
line_end_entries table = of_rules table (λ r. line_end_entry (rule_at table r).line_end)

abbrev pub line_ends_text : Options → Table → List ℕ
line_ends_text o table =
    if list_any (λ rule. rule.line_end) table.rules then filled o.prefix LINE_END.now ++ array_text o LINE_ENDS.now (line_end_entries table) else filled o.prefix NO_LINE_END.now

-- true if some action has an ECHO, after whose token it goes on; after a return none goes on
abbrev pub is_echo : Step → Bool
is_echo Echo = true
is_echo (Begin c) = false
is_echo (Return kind) = false

abbrev pub has_echoes : Table → Bool
has_echoes table = list_any (λ rule. list_any is_echo rule.steps) table.rules

-- the kinds that a file declares, in the order of their names
abbrev pub kinds_array : Options → Table → List ℕ
kinds_array o table = if has_file o.include then array_text o KINDS.now (kind_entries table []) else []

abbrev pub steps_arrays : Options → ℕ → Table → List ℕ
steps_arrays o first table = of_rules table (λ r. steps_array o first table r (rule_at table r).steps)

abbrev pub steps_text : Options → Table → List ℕ
steps_text o table = array_text o STEPS.now (of_rules table (λ r. steps_entry o r (rule_at table r).steps))

abbrev pub action_entries : Options → ℕ → Table → List ℕ
action_entries o first table = of_rules table (λ r. action_entry o first table (rule_at table r).steps)

-- all arrays of what rules do, if the first kind has this number
abbrev pub actions_from : Options → ℕ → Table → List ℕ
actions_from o first table =
    steps_arrays o first table ++ steps_text o table ++ array_text o ACTIONS.now (action_entries o first table)
    ++ line_ends_text o table ++ either o (has_echoes table) PENDING.now NOTHING_PENDING.now ++ array_text o NAMES.now (kind_entries table (codes "\"")) ++ kinds_array o table
