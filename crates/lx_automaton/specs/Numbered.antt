-- States of an automaton in another order.
use Rattle.std.specs.Prelude.{◌≡◌, ◌≢◌, ℕ, ◌+◌, ◌-◌, ◌*◌, ◌<◌, ◌≤◌, ◌==◌, nat_lt, if◌then◌else◌, List, [], ◌∷◌, Option, Some, None, length, slice_index, slice_index_or}
use Rattle.lx_automaton.specs.Automata.{Machine, accepted_by, class_target}
use Rattle.lx_automaton.specs.EncodedOptions.{decoded_option}

-- the number of encoded options that are 0
abbrev pub zeros : List ℕ → ℕ
zeros [] = 0
zeros (encoded_option ∷ encoded_options) = (if encoded_option == 0 then 1 else 0) + zeros encoded_options

-- The met states, in that order; and for each state 0 before it is met, then one more than its place among them.
pub record AreMet (states encoded_options : List ℕ) : Type 0 where
  pub room : length states + zeros encoded_options ≡ length encoded_options
  pub below : (i : ℕ) → i < length states → slice_index states i < length encoded_options
  pub placed : (i : ℕ) → i < length states → slice_index encoded_options (slice_index states i) ≡ i + 1
  pub within : (s : ℕ) → s < length encoded_options → slice_index encoded_options s ≢ 0 → slice_index encoded_options s ≤ length states
  pub found : (s : ℕ) → s < length encoded_options → slice_index encoded_options s ≢ 0 → slice_index states (slice_index encoded_options s - 1) ≡ s

-- every state was met
pub record AreAllMet (states encoded_options : List ℕ) : Type 0 where
  pub met : AreMet states encoded_options
  pub each : (s : ℕ) → s < length encoded_options → slice_index encoded_options s ≢ 0

-- the encoded option of a target, 0 if there is none
abbrev pub encoded_option_of : List ℕ → Option ℕ → ℕ
encoded_option_of encoded_options None = 0
encoded_option_of encoded_options (Some s) = slice_index encoded_options s

-- the rule, if it is below `rules`
abbrev pub rule_below : ℕ → Option ℕ → Option ℕ
rule_below rules None = None
rule_below rules (Some rule) = if nat_lt rule rules then Some rule else None

-- the first n of the starts by their new numbers
pub record AreStarts (m : Machine) (encoded_options : List ℕ) (starts : List (ℕ × ℕ)) (n : ℕ) : Type 0 where
  pub long : length starts ≡ n
  pub elsewhere : (c : ℕ) → c < n → (slice_index_or starts c (0, 0)).0 + 1 ≡ slice_index encoded_options (slice_index_or m.starts c (0, 0)).0
  pub at_begin : (c : ℕ) → c < n → (slice_index_or starts c (0, 0)).1 + 1 ≡ slice_index encoded_options (slice_index_or m.starts c (0, 0)).1

-- for the first n states, the encoded options of the rules that they accept, if those are below `rules`
pub record AreAccepted (m : Machine) (rules : ℕ) (states accepted : List ℕ) (n : ℕ) : Type 0 where
  pub long : length accepted ≡ n
  pub each : (i : ℕ) → i < n → decoded_option (slice_index accepted i) ≡ rule_below rules (accepted_by m (slice_index states i))

-- the first n encoded options of the rows in the new order
pub record AreRows (m : Machine) (states encoded_options targets : List ℕ) (n : ℕ) : Type 0 where
  pub long : length targets ≡ n
  pub each : (i c : ℕ) → c < m.width → i * m.width + c < n →
      slice_index targets (i * m.width + c) ≡ encoded_option_of encoded_options (class_target m (slice_index states i) c)
