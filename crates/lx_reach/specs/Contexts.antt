-- Trailing context r/s of which flex takes another text, by tables of the rule with a condition for each part: 1 for r, 2 for r followed by s, 3 for s.
use Rattle.std.specs.Prelude.{◌≡◌, ◌≢◌, ◌⊎◌, ⊤, ℕ, ◌<◌, Bool, true, false, All, IfSome, List, [], ◌∷◌, ◌++◌, Option, Some, None}
use Rattle.lx_automaton.specs.Automata.{Machine, accepted_at, start_of, state_after, state_count}
use Rattle.lx_reach.specs.declared.contexts.ContextReading.{ContextReading}
use Rattle.lx_reach.specs.declared.contexts.ContextReading.TheVariants.{NotBegun, Begins, At}
use Rattle.lx_reach.specs.declared.contexts.EmptyParts.{EmptyParts}
use Rattle.lx_reach.specs.declared.contexts.Reading.{Reading}

-- the state after a text in a condition, elsewhere than at the start of a line
abbrev pub reached_by : Machine → ℕ → List ℕ → Option ℕ
reached_by m condition text = state_after m (Some (start_of m condition false)) text

-- A text of r: the tables accept it, or it is the empty one.
abbrev pub IsToken : Machine → EmptyParts → List ℕ → Type 0
IsToken m parts text = (accepted_at m (reached_by m 1 text) ≢ None) ⊎ ((text ≡ []) × (parts.token ≡ true))

-- no text of s
abbrev pub IsNoContext : Machine → EmptyParts → List ℕ → Type 0
IsNoContext m parts [] = parts.context ≡ false
IsNoContext m parts (byte ∷ text) = accepted_at m (reached_by m 3 (byte ∷ text)) ≡ None

-- After none of these bytes is there a state that accepts.
abbrev pub NoneAccepted : Machine → Option ℕ → List ℕ → Type 0
NoneAccepted m state [] = ⊤
NoneAccepted m state (byte ∷ text) = (accepted_at m (state_after m state (byte ∷ [])) ≡ None) × NoneAccepted m (state_after m state (byte ∷ [])) text

-- A match of r/s whose longest text of r is followed by no text of s. There flex takes that text.
pub record IsCutElsewhere (m : Machine) (parts : EmptyParts) : Type 0 where
  pub token : List ℕ
  pub rest : List ℕ
  pub bytes : All (λ b. b < 256) (token ++ rest)
  pub is_match : accepted_at m (reached_by m 2 (token ++ rest)) ≢ None
  pub is_token : IsToken m parts token
  pub is_longest : NoneAccepted m (reached_by m 1 token) rest
  pub is_no_context : IsNoContext m parts rest

-- After a text of r come more bytes, and none of them ends a longer one. They lead to this state of s.
pub record IsBehindToken (m : Machine) (parts : EmptyParts) (token rest : List ℕ) (state : Option ℕ) : Type 0 where
  pub is_token : IsToken m parts token
  pub some : rest ≢ []
  pub at_state : reached_by m 3 rest ≡ state
  pub is_longest : NoneAccepted m (reached_by m 1 token) rest

-- the facts of a reading about the text after the last text of r
abbrev pub IsContextReading : Machine → EmptyParts → List ℕ → List ℕ → ContextReading → Type 0
IsContextReading m parts token rest NotBegun = rest ≡ []
IsContextReading m parts token rest Begins = (rest ≡ []) × IsToken m parts token
IsContextReading m parts token rest (At state) = IsBehindToken m parts token rest state

-- a state of the machine, if there is one
abbrev pub IsState : Machine → Option ℕ → Type 0
IsState m state = IfSome state (λ s. s < state_count m)

-- the state of s, if there is one
abbrev pub context_state : ContextReading → Option ℕ
context_state NotBegun = None
context_state Begins = None
context_state (At state) = state

-- a text of r was read whole
abbrev pub has_begun : ContextReading → Bool
has_begun NotBegun = false
has_begun Begins = true
has_begun (At state) = true

-- the context after one more byte
abbrev pub IsNextContext : Machine → ContextReading → ℕ → ContextReading → Type 0
IsNextContext m NotBegun byte next = next ≡ NotBegun
IsNextContext m Begins byte next = next ≡ At (reached_by m 3 (byte ∷ []))
IsNextContext m (At state) byte next = next ≡ At (state_after m state (byte ∷ []))

-- The states of a reading are those to which a text leads.
pub record IsReading (m : Machine) (parts : EmptyParts) (reading : Reading) : Type 0 where
  pub token : List ℕ
  pub rest : List ℕ
  pub bytes : All (λ b. b < 256) (token ++ rest)
  pub at_token : reached_by m 1 (token ++ rest) ≡ reading.token
  pub at_whole : reached_by m 2 (token ++ rest) ≡ Some reading.whole
  pub at_context : IsContextReading m parts token rest reading.context
  pub is_state : IsState m reading.token
  pub is_whole_state : reading.whole < state_count m
  pub is_context_state : IsState m (context_state reading.context)
