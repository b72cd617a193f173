-- Flags of the rules of tables are flags of the rules of their specification.
use Rattle.std.proofs.Common.{◌↔◌, ℕ, List, Bool, length, ◌∙◌, ap}
use Rattle.std.proofs.lemmas.List.{length-map}
use Rattle.lx_rules.specs.Plain.{PlainSpec}
use Rattle.lx_tables.specs.Model.{AreTablesOf, Table, table_rule}
use Rattle.lx_reach.specs.Chosen.{AreFlagsOf, IsEverChosen, IsEverChosenBy}
use Rattle.lx_reach.specs.Entered.{IsEntered}

pub rules_flagged : (spec : PlainSpec) (table : Table) (flags : List Bool) → AreTablesOf spec table → ((rule : ℕ) → IsEverChosen table rule ↔ IsEverChosenBy spec rule) →
    AreFlagsOf (length table.rules) (IsEverChosen table) flags → AreFlagsOf (length spec.rules) (IsEverChosenBy spec) flags
rules_flagged spec table flags of by are = record {
  long = are.long ∙ ap (λ rules. length rules) of.rules ∙ length-map spec.rules table_rule;
  holds = λ n is. (by n).0 (are.holds n is);
  fails = λ n is chosen. are.fails n is ((by n).1 chosen);
}

pub conditions_flagged : (spec : PlainSpec) (table : Table) (flags : List Bool) → AreTablesOf spec table →
    AreFlagsOf (length table.machine.starts) (IsEntered table) flags → AreFlagsOf (length spec.conditions) (IsEntered table) flags
conditions_flagged spec table flags of are = record { long = are.long ∙ of.automaton.conditions; holds = are.holds; fails = are.fails }
