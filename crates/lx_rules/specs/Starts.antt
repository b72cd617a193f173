-- A rule is active at a start if it is in the condition, and at line begin if it asks for that; and the flags of the active rules.
use Rattle.std.specs.Prelude.{◌≡◌, ℕ, ◌<◌, ◌↔◌, Bool, true, false, IsTrue, List, length, slice_get, slice_index_or, Some}
use Rattle.lx_rules.specs.Plain.{PlainRule, PlainSpec}
use Rattle.lx_rules.specs.Choice.{IsActive}

pub record IsActiveAt (spec : PlainSpec) (rule : PlainRule) (condition : ℕ) (begin : Bool) : Type 0 where
  pub active : IsActive spec rule condition
  pub line_begin : IsTrue rule.reading.line_begin → IsTrue begin

-- the flags are true for the rules that are active at the start
pub record AreActive (spec : PlainSpec) (condition : ℕ) (begin : Bool) (active : List Bool) : Type 0 where
  pub each : (i : ℕ) (rule : PlainRule) → slice_get spec.rules i ≡ Some rule → (slice_index_or active i false ≡ true) ↔ IsActiveAt spec rule condition begin

-- the flags of the first n rules
pub record AreActiveBelow (spec : PlainSpec) (condition : ℕ) (begin : Bool) (active : List Bool) (n : ℕ) : Type 0 where
  pub long : length active ≡ n
  pub each : (i : ℕ) (rule : PlainRule) → i < n → slice_get spec.rules i ≡ Some rule → (slice_index_or active i false ≡ true) ↔ IsActiveAt spec rule condition begin
