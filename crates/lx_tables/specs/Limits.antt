-- The tests of lists that were read: all facts about tables, except for the byte classes.
use Rattle.std.specs.Prelude.{◌≡◌, ℕ, ◌*◌, ◌<◌, ◌≤◌, ◌==◌, ◌&&◌, nat_lt, nat_le, Bool, IsTrue, List, Some, length}
use Rattle.std.specs.List.{list_all}
use Rattle.lx_rules.specs.Identifiers.{is_identifier}
use Rattle.lx_rules.specs.Invariant.{are_distinct, are_steps}
use Rattle.lx_rules.specs.Limits.{max_start_conditions, max_kinds, max_rules}
use Rattle.lx_automaton.specs.Automata.{Machine, IsMachine, accepted_by, max_states}
use Rattle.lx_tables.specs.Model.{TableRule, Table}

-- the machine is one, and each rule that it accepts is below this number of rules
pub record IsMachineFor (rules : ℕ) (m : Machine) : Type 0 where
  pub machine : IsMachine m
  pub accepted : (s r : ℕ) → accepted_by m s ≡ Some r → r < rules

-- the names are few, identifiers, and each once
pub record AreKinds (kinds : List (List ℕ)) : Type 0 where
  pub few : length kinds ≤ max_kinds
  pub identifiers : IsTrue (list_all is_identifier kinds)
  pub distinct : IsTrue (are_distinct kinds)

-- the steps of each rule name conditions and kinds that exist
abbrev pub are_rules : ℕ → ℕ → List TableRule → Bool
are_rules conditions kinds rules = list_all (λ rule. are_steps conditions kinds rule.steps) rules

pub record HasLimits (table : Table) : Type 0 where
  pub machine : IsMachineFor (length table.rules) table.machine
  pub kinds : AreKinds table.kinds
  pub few_rules : length table.rules ≤ max_rules
  pub steps : IsTrue (are_rules (length table.machine.starts) (length table.kinds) table.rules)

-- both states of a start are below
abbrev pub is_start : ℕ → ℕ × ℕ → Bool
is_start states start = nat_lt start.0 states && nat_lt start.1 states

-- the lists have the required lengths
abbrev pub have_lengths : List (ℕ × ℕ) → List ℕ → ℕ → List ℕ → List ℕ → Bool
have_lengths starts classes width accepted targets =
    nat_lt 0 (length starts) && (nat_le (length starts) max_start_conditions && (length classes == 256 && (nat_le width 256 && (nat_le (length accepted) max_states && length targets == length accepted * width))))

-- the numbers and encoded options in them are in range, for this number of rules
abbrev pub are_in_range : ℕ → List (ℕ × ℕ) → List ℕ → ℕ → List ℕ → List ℕ → Bool
are_in_range rules starts classes width accepted targets =
    list_all (is_start (length accepted)) starts && (list_all (λ class. nat_lt class width) classes && (list_all (λ encoded_option. nat_le encoded_option rules) accepted && list_all (λ encoded_option. nat_le encoded_option (length accepted)) targets))
