-- The facts about position sets while they are explored (Rabin and Scott 1959: the subset construction).
use Rattle.std.specs.Prelude.{◌≡◌, ◌≢◌, ℕ, ◌+◌, ◌*◌, ◌<◌, ◌⊎◌, Bool, true, false, List, [], ◌∷◌, ◌++◌, length, filter, slice_index, slice_index_or, Option, None, All}
use Rattle.lx_ere.specs.Regex.{Regex}
use Rattle.lx_rules.specs.Plain.{PlainSpec}
use Rattle.lx_auto.specs.Unfolded.{Unfolded}
use Rattle.lx_auto.specs.PositionSets.{NumberedRule, StartAndWord, numbered}
use Rattle.lx_auto.specs.SetSteps.{IsSetOf, IsRising}
use Rattle.lx_auto.specs.Sets.{AreFollowing, AreFirst}
use Rattle.lx_auto.specs.Leaves.{PlainLeaf, has_byte, AreLeavesOf}
use Rattle.lx_auto.specs.SetTable.{Positions, set_of, IsTarget}

-- those of the positions that have the byte
abbrev pub positions_with_byte : List PlainLeaf → ℕ → List ℕ → List ℕ
positions_with_byte leaves b F = filter (λ q. has_byte leaves q b) F

-- an ascending set that isn't empty, and that some word of bytes leads to from a start
pub record IsReachedSet (spec : PlainSpec) (rules : List NumberedRule) (S : List ℕ) : Type 0 where
  pub from : StartAndWord
  pub start : from.condition < length spec.conditions
  pub bytes : All (λ b. b < 256) from.word
  pub leads : IsSetOf spec rules from S
  pub rising : IsRising S
  pub some : S ≢ []

-- each set of the table is reached, and no two are equal
pub record AreReachedSets (spec : PlainSpec) (rules : List NumberedRule) (sets : List Positions) : Type 0 where
  pub reached : (i : ℕ) → i < length sets → IsReachedSet spec rules (set_of sets i)
  pub distinct : (i j : ℕ) → i < j → j < length sets → set_of sets i ≢ set_of sets j

-- there are more than `limit`: one more, of which no two are equal
pub record HasMoreSets (spec : PlainSpec) (rules : List NumberedRule) (limit : ℕ) : Type 0 where
  pub sets : List (List ℕ)
  pub count : length sets ≡ limit + 1
  pub reached : (i : ℕ) → i < length sets → IsReachedSet spec rules (slice_index_or sets i [])
  pub distinct : (i j : ℕ) → i < j → j < length sets → slice_index_or sets i [] ≢ slice_index_or sets j []

-- the number of a start: that of a condition without line begin, and then at line begin
abbrev pub start_number : ℕ → Bool → ℕ
start_number condition false = 2 * condition
start_number condition true = 2 * condition + 1

abbrev pub start_count : PlainSpec → ℕ
start_count spec = 2 * length spec.conditions

-- the positions that can be read next in a state: those of a start, or those after a set; the sets come after the starts
abbrev pub IsSource : PlainSpec → List NumberedRule → List Positions → ℕ → List ℕ → Type 0
IsSource spec rules sets i F =
    ((c : ℕ) × (begin : Bool) × (c < length spec.conditions) × (i ≡ start_number c begin) × AreFirst spec rules c begin F)
    ⊎ ((j : ℕ) × (j < length sets) × (i ≡ start_count spec + j) × AreFollowing rules (set_of sets j) F)

-- the steps of the first states are known: n of them, row by row
pub record HaveSteps (spec : PlainSpec) (rules : List NumberedRule) (leaves : List PlainLeaf) (representatives : List ℕ) (sets : List Positions)
    (targets : List (Option ℕ)) (n : ℕ) : Type 0 where
  pub long : length targets ≡ n
  pub each : (i c : ℕ) → c < length representatives → i * length representatives + c < n →
      (F : List ℕ) × IsSource spec rules sets i F × IsTarget sets (slice_index_or targets (i * length representatives + c) None) (positions_with_byte leaves (slice_index representatives c) F)

-- one more target: that of a set
pub record AddsTarget (sets : List Positions) (old new : List (Option ℕ)) (set : List ℕ) : Type 0 where
  pub target : Option ℕ
  pub added : new ≡ old ++ target ∷ []
  pub is : IsTarget sets target set

-- the requirements on the rules, the table and the targets before the steps of a state are added
pub record IsRowOf (spec : PlainSpec) (tree_of : Regex → Unfolded) (leaves : List PlainLeaf) (representatives : List ℕ) (state : ℕ) (F : List ℕ)
    (sets : List Positions) (targets : List (Option ℕ)) : Type 0 where
  pub leaves_of : AreLeavesOf (numbered tree_of 0 spec.rules) leaves
  pub source : IsSource spec (numbered tree_of 0 spec.rules) sets state F
  pub reached : AreReachedSets spec (numbered tree_of 0 spec.rules) sets
  pub steps : HaveSteps spec (numbered tree_of 0 spec.rules) leaves representatives sets targets (state * length representatives)

-- the sets that were reached, and the steps of the first n states
pub record IsExplored (spec : PlainSpec) (tree_of : Regex → Unfolded) (leaves : List PlainLeaf) (representatives : List ℕ) (sets : List Positions)
    (targets : List (Option ℕ)) (n : ℕ) : Type 0 where
  pub reached : AreReachedSets spec (numbered tree_of 0 spec.rules) sets
  pub steps : HaveSteps spec (numbered tree_of 0 spec.rules) leaves representatives sets targets (n * length representatives)
