-- A scanner as code for each state: the marks of the states, the starts of the conditions, the states, and the rules. Where no step is left, the code of the rule follows
-- that the state accepts. Where it accepts none, the last place counts at which one was accepted.
use Rattle.std.specs.Prelude.{ℕ, ◌+◌, ◌==◌, ◌||◌, not, Bool, true, false, List, ◌++◌, length, codes}
use Rattle.std.specs.List.{flat_map, list_any, range_with_len}
use Rattle.lx_automaton.specs.Automata.{Machine, start_of, accepted_by}
use Rattle.lx_tables.specs.Model.{Table}
use Rattle.lx_tables.specs.Texts.{number}
use Rattle.lx_c.specs.Options.{Options}
use Rattle.lx_c.specs.Rows.{line_begin_text}
use Rattle.lx_c.specs.StateCode.{marks_text, state_codes}
use Rattle.lx_c.specs.Words.{rule_word}
use Rattle.lx_c.specs.Templates.{either, filled, numbered}
use Rattle.lx_c.specs.declared.direct_templates.TheConstants.{MAY_BE_EMPTY, NONE_IS_EMPTY, BEGIN_MATCH, AT_LINE_BEGIN, BEHIND_LINE_END, GOTO_STATE, BEGIN_STATES, BACK, GOTO_RULE_OF, NO_RULE, RULE_LABEL, MATCHED, SKIPPED, END_MATCH}
use Rattle.lx_c.specs.declared.state_templates.TheConstants.{CASE}

-- ---- if a match may be empty

-- true if a condition starts in a state that accepts a rule
abbrev pub accepts_at_once : Machine → ℕ × ℕ → Bool
accepts_at_once m start = not (rule_word (accepted_by m start.0) == 0) || not (rule_word (accepted_by m start.1) == 0)

-- the text in the place of the arrays of the automaton
abbrev pub direct_arrays_text : Options → Table → List ℕ
direct_arrays_text o table =
    line_begin_text o table ++ either o (list_any (accepts_at_once table.machine) table.machine.starts) MAY_BE_EMPTY.now NONE_IS_EMPTY.now
    ++ marks_text o false table.machine

-- ---- all code

-- the state in which a condition starts, by a test for line begin
abbrev pub start_code : Options → List ℕ → Machine → ℕ → List ℕ
start_code o test m c =
    CASE.now ++ number c ++ numbered o test (start_of m c true) (codes ";") ++ numbered o GOTO_STATE.now (start_of m c false) (codes ";\n")

abbrev pub start_codes : Options → List ℕ → Machine → List ℕ
start_codes o test m = flat_map (start_code o test m) (range_with_len 0 (length m.starts))

-- from the number of a rule plus 1 to its code, and that code
abbrev pub rule_case : Options → ℕ → List ℕ
rule_case o r = CASE.now ++ number (r + 1) ++ numbered o GOTO_RULE_OF.now (r + 1) (codes ";\n")

abbrev pub rule_code : Options → ℕ → List ℕ
rule_code o r = numbered o RULE_LABEL.now (r + 1) (codes ":\n") ++ numbered o MATCHED.now (r + 1) (codes ")\n")

abbrev pub rule_cases : Options → Table → List ℕ
rule_cases o table = flat_map (rule_case o) (range_with_len 0 (length table.rules))

abbrev pub rule_codes : Options → Table → List ℕ
rule_codes o table = flat_map (rule_code o) (range_with_len 0 (length table.rules))

-- the search for the next match
abbrev pub states_text : Options → Machine → List ℕ
states_text o m = filled o.prefix BEGIN_MATCH.now ++ start_codes o AT_LINE_BEGIN.now m ++ filled o.prefix BEGIN_STATES.now ++ state_codes o false m

abbrev pub rules_text : Options → Table → List ℕ
rules_text o table =
    filled o.prefix BACK.now ++ rule_cases o table ++ filled o.prefix NO_RULE.now ++ rule_codes o table ++ filled o.prefix SKIPPED.now

-- after a match that is skipped the next one begins
abbrev pub direct_walk_text : Options → Table → List ℕ
direct_walk_text o table = states_text o table.machine ++ rules_text o table ++ start_codes o BEHIND_LINE_END.now table.machine ++ filled o.prefix END_MATCH.now
