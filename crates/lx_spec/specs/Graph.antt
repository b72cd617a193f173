-- The mentions of definitions by definitions, by their numbers; the definitions that lead to a mark, and the number of names that follow in a chain.
use Rattle.std.specs.Prelude.{◌≡◌, ℕ, zero, suc, ◌+◌, ◌<◌, ◌≤◌, ◌↔◌, ◌⊎◌, Bool, false, true, IsTrue, List, [], ◌∷◌, length, map, slice_index, slice_index_or, Contains}
use Rattle.std.specs.declared.alloc.Global.{Global}
use Rattle.std.specs.declared.vec.Vec.{Vec}
use Rattle.lx_spec.specs.declared.graph.Mention.{Mention}

abbrev pub nowhere : Mention
nowhere = record { from = 0; to = 0 }

-- one of the mentions is that of j by i
pub record IsMention (mentions : List Mention) (i j : ℕ) : Type 0 where
  pub place : ℕ
  pub within : place < length mentions
  pub from : (slice_index_or mentions place nowhere).from ≡ i
  pub to : (slice_index_or mentions place nowhere).to ≡ j

-- the mentions are of definitions with numbers below this one
abbrev pub AreBelow : List Mention → ℕ → Type 0
AreBelow mentions n = (k : ℕ) → k < length mentions → ((slice_index_or mentions k nowhere).from < n) × ((slice_index_or mentions k nowhere).to < n)

abbrev pub is_marked : List Bool → ℕ → Bool
is_marked marks i = slice_index_or marks i false

-- The definition is marked, or one that it mentions leads to a mark.
pub data Leads (mentions : List Mention) (marks : List Bool) : ℕ → Type 0 where
  itself : (i : ℕ) → IsTrue (is_marked marks i) → Leads mentions marks i
  along : (i j : ℕ) → IsMention mentions i j → Leads mentions marks j → Leads mentions marks i

-- the number of definitions that aren't marked
abbrev pub unmarked : List Bool → ℕ
unmarked [] = 0
unmarked (true ∷ marks) = unmarked marks
unmarked (false ∷ marks) = suc (unmarked marks)

-- the list at this place
abbrev pub list_at : List (Vec ℕ Global) → ℕ → List ℕ
list_at lists j = slice_index_or (map (λ list. list.items) lists) j []

-- The definitions with these numbers were marked, and those of them that weren't marked before went onto the stack.
pub record AreMarked (numbers : List ℕ) (old new : List Bool) (before after : List ℕ) : Type 0 where
  pub len : length new ≡ length old
  pub marks : (i : ℕ) → IsTrue (is_marked new i) ↔ (IsTrue (is_marked old i) ⊎ Contains numbers i)
  pub stack : (i : ℕ) → Contains after i ↔ (Contains before i ⊎ ((is_marked old i ≡ false) × Contains numbers i))
  pub each_once : unmarked new + length after ≡ unmarked old + length before

-- This number of further names follows definition i in a chain.
abbrev pub Follow : (ℕ → ℕ → Type 0) → ℕ → ℕ → Type 0
Follow Mentions zero i = Unit {0}
Follow Mentions (suc n) i = (j : ℕ) × Mentions i j × Follow Mentions n j

-- Each depth is that of a chain.
abbrev pub AreSound : (ℕ → ℕ → Type 0) → List ℕ → Type 0
AreSound M depths = (i n : ℕ) → n ≤ slice_index depths i → Follow M n i

-- Each chain of at most this number of further names is as long as the depth says.
abbrev pub Reach : (ℕ → ℕ → Type 0) → List ℕ → ℕ → Type 0
Reach M depths most = (i n : ℕ) → n ≤ most → Follow M n i → n ≤ slice_index depths i
