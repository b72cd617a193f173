-- Code for each state of an automaton, in C, of a text that ends with a NUL; the steps on a NUL of the text are in an array.
use Rattle.std.specs.Prelude.{◌≡◌, ℕ, ◌+◌, ◌*◌, true, false, List, [], ◌++◌, Option, Some, None, length, codes}
use Rattle.std.specs.List.{flat_map, range_with_len}
use Rattle.lx_automaton.specs.Automata.{Machine, state_count, start_of, accepted_by, target_of}
use Rattle.lx_c.specs.Options.{yy_options}
use Rattle.lx_c.specs.StateCode.{marks_text, state_codes}
use Rattle.lx_c.specs.Templates.{number_then}
use Rattle.lx_c.specs.Words.{rule_word}
use Rattle.lx_lex.specs.Arrays.{HasArrays, arrays_text, entry_text, head_text}
use Rattle.lx_lex.specs.declared.forms.ScannerForm.{ScannerForm}
use Rattle.lx_lex.specs.declared.forms.ScannerForm.TheVariants.{Rows, States}
use Rattle.lx_c.specs.declared.state_templates.TheConstants.{CASE}
use Rattle.lx_lex.specs.declared.skeleton_states.TheConstants.{GOTO_STATE, RESUME}
use Rattle.lx_tables.specs.Model.{Table}

-- ---- the arrays

-- the rule of each state, from 1, or 0
abbrev pub accept_entries : Machine → List ℕ
accept_entries m = flat_map (λ s. entry_text (rule_word (accepted_by m s))) (range_with_len 0 (state_count m))

-- one more than a state, or 0 for none
abbrev pub state_word : Option ℕ → ℕ
state_word None = 0
state_word (Some s) = s + 1

-- the step of each state on a NUL of the text
abbrev pub nul_entries : Machine → List ℕ
nul_entries m = flat_map (λ s. entry_text (state_word (target_of m s 0))) (range_with_len 0 (state_count m))

abbrev pub accept_array : Table → List ℕ
accept_array table = head_text (length table.rules) (codes "yy_accept[] = {\n") ++ accept_entries table.machine ++ codes "0};\n"

abbrev pub nul_array : Table → List ℕ
nul_array table = head_text (state_count table.machine) (codes "yy_nul[] = {\n") ++ nul_entries table.machine ++ codes "0};\n"

unfoldable pub state_arrays_text : Table → List ℕ
state_arrays_text table = accept_array table ++ nul_array table ++ marks_text yy_options true table.machine

-- ---- all code

-- from a number to the code of a state
abbrev pub goto_code : ℕ → ℕ → List ℕ
goto_code number s = CASE.now ++ number_then number GOTO_STATE.now ++ number_then s (codes ";\n")

-- the states in which a condition starts, not at line begin and at line begin
abbrev pub start_code : Machine → ℕ → List ℕ
start_code m c = goto_code (2 * c) (start_of m c false) ++ goto_code (2 * c + 1) (start_of m c true)

abbrev pub start_codes : Machine → List ℕ
start_codes m = flat_map (start_code m) (range_with_len 0 (length m.starts))

-- from the number of a state to its code
abbrev pub resume_codes : Machine → List ℕ
resume_codes m = flat_map (λ s. goto_code s s) (range_with_len 0 (state_count m))

-- from the start of a condition through the states; and then the way back into a state, after more text was read
unfoldable pub states_text : Machine → List ℕ
states_text m = start_codes m ++ codes "        }\n" ++ state_codes yy_options true m ++ RESUME.now ++ resume_codes m ++ codes "        }\n"

-- The text has the arrays and then the code for the states of the table.
pub record HasStates (table : Table) (text : List ℕ) : Type 0 where
  pub before : List ℕ
  pub between : List ℕ
  pub after : List ℕ
  pub parts : text ≡ before ++ (state_arrays_text table ++ (between ++ (states_text table.machine ++ after)))

-- the arrays of the automaton in a form, and its code
abbrev pub automaton_arrays : ScannerForm → Table → List ℕ
automaton_arrays Rows table = arrays_text (codes "yy_") table.machine (length table.rules)
automaton_arrays States table = state_arrays_text table

abbrev pub walk_text : ScannerForm → Table → List ℕ
walk_text Rows table = []
walk_text States table = states_text table.machine

-- The text has the arrays of the table, or the code for its states, by the form.
abbrev pub HasForm : ScannerForm → Table → List ℕ → Type 0
HasForm Rows table text = HasArrays table text
HasForm States table text = HasStates table text
