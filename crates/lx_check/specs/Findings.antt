-- The findings in the text of a specification.
use Rattle.std.specs.Prelude.{◌≡◌, ℕ, ⊤, List, [], ◌∷◌, length}
use Rattle.lx_auto.specs.Counts.{count_of_spec}
use Rattle.lx_automaton.specs.Automata.{state_count}
use Rattle.lx_rules.specs.Plain.{PlainSpec}
use Rattle.lx_rules.specs.views.Specs.{spec_view}
use Rattle.lx_spec.specs.Whole.{IsRead}
use Rattle.lx_tables.specs.Model.{AreTablesOf, Table}
use Rattle.lx_reach.specs.Chosen.{AreFlagsOf, IsEverChosenBy}
use Rattle.lx_reach.specs.Entered.{IsEntered}
use Rattle.lx_check.specs.Verdicts.{IsFinding}
use Rattle.lx_check.specs.declared.text_fault.TextFault.{TextFault}
use Rattle.lx_check.specs.declared.report.Accepted.{Accepted}
use Rattle.lx_check.specs.declared.report.Counts.{Counts}
use Rattle.lx_check.specs.declared.report.Report.{Report}
use Rattle.lx_check.specs.declared.report.Report.TheVariants as report

-- The first of the findings is one of the text.
abbrev pub BeginsWithFinding : List ℕ → List TextFault → Type 0
BeginsWithFinding text [] = ⊥
BeginsWithFinding text (finding ∷ more) = IsFinding text finding

-- The text is rejected for its first fault, or it is this specification, and these are its tables.
abbrev pub IsVerdict : List ℕ → Report → Type 0
IsVerdict text (report.Refused findings) = BeginsWithFinding text findings.items
IsVerdict text (report.Accepted accepted) = IsRead text (spec_view accepted.spec) × AreTablesOf (spec_view accepted.spec) accepted.tables

-- for each rule of the specification, true if it is ever chosen by the rules, and for each condition, true if it is entered
abbrev pub TellsChosen : Accepted → Type 0
TellsChosen accepted =
    AreFlagsOf (length (spec_view accepted.spec).rules) (IsEverChosenBy (spec_view accepted.spec)) accepted.chosen.items
    × AreFlagsOf (length (spec_view accepted.spec).conditions) (IsEntered accepted.tables) accepted.entered.items

-- the sizes of a specification and its tables
pub record AreCounts (spec : PlainSpec) (table : Table) (counts : Counts) : Type 0 where
  pub rules : counts.rules ≡ length spec.rules
  pub definitions : counts.definitions ≡ length spec.definitions
  pub conditions : counts.conditions ≡ length spec.conditions
  pub positions : counts.positions ≡ count_of_spec spec
  pub states : counts.states ≡ state_count table.machine
  pub classes : counts.classes ≡ table.machine.width

abbrev pub IfAccepted : (Accepted → Type 0) → Report → Type 0
IfAccepted P (report.Refused findings) = ⊤
IfAccepted P (report.Accepted accepted) = P accepted
