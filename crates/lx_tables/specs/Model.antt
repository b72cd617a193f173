-- Tables of a scanner as plain data, and their invariant: a deterministic automaton (Rabin and Scott 1959), and the effects of rules (XCU `lex`,
-- "Actions in lex"). The form of tables is this project's own, as POSIX leaves it open.
use Rattle.std.specs.Prelude.{◌≡◌, ℕ, ◌<◌, ◌≤◌, ◌↔◌, Bool, false, IsTrue, List, [], Some, length, map, slice_index, slice_index_or}
use Rattle.std.specs.List.{list_all}
use Rattle.lx_rules.specs.Plain.{PlainRule, PlainSpec}
use Rattle.lx_rules.specs.Identifiers.{is_identifier}
use Rattle.lx_rules.specs.Invariant.{are_distinct, are_steps}
use Rattle.lx_rules.specs.declared.rule.Step.{Step}
use Rattle.lx_rules.specs.Limits.{max_kinds, max_rules}
use Rattle.lx_automaton.specs.Automata.{Machine, IsMachine, HasByteClasses, state_count, accepted_by, target_of, are_numbered}
use Rattle.lx_automaton.specs.Meaning.{IsAutomatonOf}

-- a rule: true if it ends with `$`, and the steps of its action
pub record TableRule : Type 0 where
  pub line_end : Bool
  pub steps : List Step

-- Tables: the automaton, the names of kinds, and the rules.
pub record Table : Type 0 where
  pub machine : Machine
  pub kinds : List (List ℕ)
  pub rules : List TableRule

-- the rule with this number; one without effect if there is none
abbrev pub rule_at : Table → ℕ → TableRule
rule_at table rule = slice_index_or table.rules rule (record { line_end = false; steps = [] })

-- the kind with this number
abbrev pub kind_at : Table → ℕ → List ℕ
kind_at table kind = slice_index_or table.kinds kind []

-- The invariant of all tables. There are 1 to 64 conditions, 1 to 16,512 states and 1 to 256 classes, as in each automaton; the classes are its byte
-- classes. There are at most 4,096 kinds, which are distinct identifiers, and at most 4,096 rules. Their steps name conditions and kinds that exist,
-- and a return is the last. Each rule that is accepted exists.
pub record IsTable (table : Table) : Type 0 where
  pub machine : IsMachine table.machine
  pub classes : HasByteClasses table.machine
  pub few_kinds : length table.kinds ≤ max_kinds
  pub identifiers : IsTrue (list_all is_identifier table.kinds)
  pub distinct : IsTrue (are_distinct table.kinds)
  pub few_rules : length table.rules ≤ max_rules
  pub steps : IsTrue (list_all (λ rule. are_steps (length table.machine.starts) (length table.kinds) rule.steps) table.rules)
  pub accepted : (s r : ℕ) → accepted_by table.machine s ≡ Some r → r < length table.rules

-- The byte classes: two bytes have one class if and only if every state steps alike on both. The classes are numbered from 0 by their least bytes.
pub record AreByteClasses (m : Machine) : Type 0 where
  pub alike : (a b : ℕ) → a < 256 → b < 256 →
      (slice_index m.classes a ≡ slice_index m.classes b) ↔ ((s : ℕ) → s < state_count m → target_of m s a ≡ target_of m s b)
  pub numbered : IsTrue (are_numbered 0 m.width m.classes)

-- the part of a specification's rule that tables keep
abbrev pub table_rule : PlainRule → TableRule
table_rule rule = record { line_end = rule.reading.line_end; steps = rule.steps }

-- Tables of a specification: their automaton is one of it, and they have its kinds, and of its rules the line ends and the steps.
pub record AreTablesOf (spec : PlainSpec) (table : Table) : Type 0 where
  pub automaton : IsAutomatonOf spec table.machine
  pub kinds : table.kinds ≡ spec.kinds
  pub rules : table.rules ≡ map table_rule spec.rules
