-- The rules that are chosen in a range of conditions, and their marks.
use Rattle.std.specs.Prelude.{◌≡◌, ℕ, ◌<◌, ◌≤◌, ◌⊎◌, ◌||◌, Bool, true, false, not, All, List, Some, slice_index, slice_index_or}
use Rattle.lx_automaton.specs.Automata.{accepted_by}
use Rattle.lx_tables.specs.Model.{Table, rule_at}
use Rattle.lx_scan.specs.Answers.{choice_of}

-- In one of these conditions, at line begin or elsewhere, the rule is the choice for some text of bytes.
pub record IsTaken (table : Table) (first end rule : ℕ) : Type 0 where
  pub condition : ℕ
  pub begin : Bool
  pub text : List ℕ
  pub from : first ≤ condition
  pub before : condition < end
  pub bytes : All (λ b. b < 256) text
  pub len : ℕ
  pub choice : choice_of table condition begin text ≡ Some (rule, len)

-- the state accepts the rule, which counts: a rule that ends with `$` counts only if such rules do
pub record IsCounted (table : Table) (with_line_ends : Bool) (s r : ℕ) : Type 0 where
  pub accepted : accepted_by table.machine s ≡ Some r
  pub counts : (with_line_ends || not (rule_at table r).line_end) ≡ true

-- the new flags mark the rules of the old ones and those that the first n of the states accept
pub record AreCounted (table : Table) (with_line_ends : Bool) (states : List ℕ) (n : ℕ) (old new : List Bool) : Type 0 where
  pub kept : (r : ℕ) → slice_index_or old r false ≡ true → slice_index_or new r false ≡ true
  pub there : (i r : ℕ) → i < n → IsCounted table with_line_ends (slice_index states i) r → slice_index_or new r false ≡ true
  pub only : (r : ℕ) → slice_index_or new r false ≡ true → (slice_index_or old r false ≡ true) ⊎ ((i : ℕ) × (i < n) × IsCounted table with_line_ends (slice_index states i) r)
