-- The start conditions that are entered (XCU `lex`, "Actions in lex": BEGIN).
use Rattle.std.specs.Prelude.{◌≡◌, ℕ, Bool, true, false, List, slice_index_or}
use Rattle.lx_tables.specs.Model.{Table, rule_at}
use Rattle.lx_scan.specs.Steps.{condition_after}
use Rattle.lx_reach.specs.Chosen.{IsChosenIn}

-- INITIAL is entered. If a condition is entered, so is the condition after the action of each rule that is chosen in it.
pub data IsEntered (table : Table) : ℕ → Type 0 where
  Initial : IsEntered table 0
  Begun : (condition rule : ℕ) → IsEntered table condition → IsChosenIn table condition rule → IsEntered table (condition_after (rule_at table rule).steps condition)

-- the condition is the one after the action of a rule that the flags mark, if the action runs in this one
pub record IsBehind (table : Table) (condition : ℕ) (flags : List Bool) (next : ℕ) : Type 0 where
  pub rule : ℕ
  pub marked : slice_index_or flags rule false ≡ true
  pub is : next ≡ condition_after (rule_at table rule).steps condition
