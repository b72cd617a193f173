-- The graph that `show` prints: the automaton of a specification, or of tables.
use Rattle.std.specs.Prelude.{◌≡◌, ◌<◌, ◌≤◌, ◌⊎◌, ℕ, Bool, true, false, nat_eq, List, [], Option, codes}
use Rattle.std.specs.Io.KnownBytes.{Appends}
use Rattle.std.specs.List.{starts_with}
use Rattle.lx_rules.specs.Plain.{PlainSpec}
use Rattle.lx_spec.specs.Whole.{IsRead}
use Rattle.lx_automaton.specs.Automata.{state_count}
use Rattle.lx_tables.specs.Model.{Table, AreTablesOf}
use Rattle.lx_piece.specs.Plans.{PlainInput}
use Rattle.lx_graph.specs.Graph.{graph_text}
use Rattle.lx_cli.specs.CommandLine.{PlainShow}
use Rattle.lx_tool.specs.Given.{IsNoTable}
use Rattle.lx_tool.specs.Printing.{condition_names}
use Rattle.lx_tool.specs.Sources.{whole}
use Rattle.lx_tool.specs.Tabling.{AreTablesIn, HasNoTables}
use Rattle.lx_tool.specs.declared.failure.CommandFault.{CommandFault}
use Rattle.lx_tool.specs.declared.failure.CommandFault.TheVariants.{Unprintable}
use Rattle.lx_tool.specs.declared.failure.PrintFault.TheVariants.{TooManyStates}

-- the greatest number of states that are shown, unless all are asked for
abbrev pub max_shown : ℕ
max_shown = 200

-- true if a text is one of tables, and else it is one of a specification
abbrev pub begins_as_tables : List ℕ → Bool
begins_as_tables text = starts_with nat_eq text (codes "lx-tables ")

-- these tables are those of the text's specification, and these names are its conditions'
pub record AreShownOfSpecification (text : List ℕ) (table : Table) (names : List (List ℕ)) : Type 0 where
  pub spec : PlainSpec
  pub read : IsRead text spec
  pub of_spec : AreTablesOf spec table
  pub names_are : names ≡ condition_names spec

-- The tables that are shown of a text, and the names of their conditions. Tables have no such names.
abbrev pub AreShown : List ℕ → Table → List (List ℕ) → Type 0
AreShown text table names =
    ((begins_as_tables text ≡ true) × AreTablesIn text table × (names ≡ []))
    ⊎ ((begins_as_tables text ≡ false) × AreShownOfSpecification text table names)

-- The text has none.
abbrev pub HasNoneShown : List ℕ → CommandFault → Type 0
HasNoneShown text failure =
    ((begins_as_tables text ≡ true) × IsNoTable text failure)
    ⊎ ((begins_as_tables text ≡ false) × HasNoTables text failure)

-- they have more states than are shown
pub record HasManyStates (all : Bool) (table : Table) (failure : CommandFault) : Type 0 where
  pub fewer_asked : all ≡ false
  pub many : max_shown < state_count table.machine
  pub told : failure ≡ Unprintable (TooManyStates (state_count table.machine))

pub record IsTooLargeToShow (all : Bool) (text : List ℕ) (failure : CommandFault) : Type 0 where
  pub table : Table
  pub names : List (List ℕ)
  pub shown : AreShown text table names
  pub many : HasManyStates all table failure

-- the cause for which nothing is shown of a text
abbrev pub IsNotShown : PlainShow → List ℕ → CommandFault → Type 0
IsNotShown show text failure = HasNoneShown text failure ⊎ IsTooLargeToShow show.all text failure

-- They gave the text that the arguments name, whole, and its graph was written.
pub record IsShown {S : Type 0} (gives : S → List ℕ → PlainInput → S → Type 0) (show : PlainShow) (before after : S) (old new : Option (List ℕ)) : Type 0 where
  pub text : List ℕ
  pub given : gives before show.rules (whole text) after
  pub table : Table
  pub names : List (List ℕ)
  pub shown : AreShown text table names
  pub few : show.all ≡ false → state_count table.machine ≤ max_shown
  pub wrote : Appends old new (graph_text table names)
