-- An automaton steps and accepts as a complete one does. A complete state is encoded as one more than the state that simulates it, or as 0 if nothing
-- is accepted from there.
use Rattle.std.specs.Prelude.{◌≡◌, ◌≢◌, ℕ, ◌-◌, ◌<◌, slice_index}
use Rattle.lx_automaton.specs.Automata.{Machine, accepted_by, class_target}
use Rattle.lx_automaton.specs.EncodedOptions.{decoded_option}
use Rattle.lx_minimize.specs.Completion.{total, label_of, step_of}
use Rattle.lx_minimize.specs.declared.complete.Complete.{Complete}

pub record Simulates (q : Machine) (m : Complete) (encode : ℕ → ℕ) : Type 0 where
  pub classes : (b : ℕ) → b < 256 → slice_index q.classes b < m.width
  pub closed : (x c : ℕ) → x < total m → c < m.width → step_of m x c < total m
  pub no_label : (x : ℕ) → x < total m → encode x ≡ 0 → label_of m x ≡ 0
  pub no_step : (x c : ℕ) → x < total m → c < m.width → encode x ≡ 0 → encode (step_of m x c) ≡ 0
  pub labels : (x : ℕ) → x < total m → encode x ≢ 0 → accepted_by q (encode x - 1) ≡ decoded_option (label_of m x)
  pub steps : (x c : ℕ) → x < total m → c < m.width → encode x ≢ 0 → class_target q (encode x - 1) c ≡ decoded_option (encode (step_of m x c))
