-- A scanner in C (C99, and C++98 too) as a text: a function of tables and options. It has one of two forms: rows by classes of bytes, or code for each state.
use Rattle.std.specs.Prelude.{ℕ, if◌then◌else◌, List, ◌++◌}
use Rattle.lx_tables.specs.Model.{Table}
use Rattle.lx_c.specs.Options.{Options, has_file}
use Rattle.lx_c.specs.Numbers.{first_kind}
use Rattle.lx_c.specs.Templates.{either, filled}
use Rattle.lx_c.specs.Declarations.{header_from}
use Rattle.lx_c.specs.Actions.{actions_from}
use Rattle.lx_c.specs.Rows.{automaton_text}
use Rattle.lx_c.specs.DirectCode.{direct_arrays_text, direct_walk_text}
use Rattle.lx_c.specs.declared.templates.TheConstants.{FIRST_LINE, LAST_LINES}
use Rattle.lx_c.specs.declared.driver.TheConstants.{HELPERS, HAS_STEP, CALLS, WALK, FURTHER_CALLS, NAME_OF_NUMBER, NAME_OF_KIND}
use Rattle.lx_c.specs.declared.direct_templates.TheConstants.{DIRECT_FIRST_LINE, MACROS, DIRECT_LAST_LINES}

abbrev pub arrays_text : Options → Table → List ℕ
arrays_text o table = if o.direct then direct_arrays_text o table else automaton_text o table

-- the search for the next match
abbrev pub walk_text : Options → Table → List ℕ
walk_text o table = if o.direct then direct_walk_text o table else filled o.prefix WALK.now

-- all calls. The name of a kind is found by its number, or by what a file declares
abbrev pub driver_text : Options → Table → List ℕ
driver_text o table =
    filled o.prefix HELPERS.now ++ either o o.direct MACROS.now HAS_STEP.now ++ filled o.prefix CALLS.now ++ walk_text o table ++ filled o.prefix FURTHER_CALLS.now
    ++ either o (has_file o.include) NAME_OF_KIND.now NAME_OF_NUMBER.now ++ either o o.direct DIRECT_LAST_LINES.now LAST_LINES.now

-- the scanner, if the first kind has this number
abbrev pub c_from : Options → ℕ → Table → List ℕ
c_from o first table =
    either o o.direct DIRECT_FIRST_LINE.now FIRST_LINE.now ++ header_from o first table ++ actions_from o first table ++ arrays_text o table ++ driver_text o table

-- The scanner: its declarations, what its rules do, its automaton or the marks of its states, and the calls. Who prints it sees it as a whole, so that proofs
-- about the words that ask for it don't go through its parts.
unfoldable pub c_text : Options → Table → List ℕ
c_text o table = c_from o (first_kind table) table
