-- Lists of all rules that sets of positions match, and the numbers of these lists.
use Rattle.std.specs.Prelude.{◌≡◌, ◌≢◌, ℕ, ◌+◌, ◌<◌, ◌≤◌, ◌↔◌, Bool, false, List, [], length, map, slice_index_or, Option, None, MatchOption, Contains}
use Rattle.lx_rules.specs.Limits.{max_rules}
use Rattle.lx_auto.specs.Following.{IsMatchedAt}
use Rattle.lx_auto.specs.Marking.{flag}
use Rattle.lx_auto.specs.PositionSets.{NumberedRule}
use Rattle.lx_auto.specs.SetSteps.{IsMatchedBy, IsRising}
use Rattle.lx_auto.specs.SetTable.{Positions, Numbers, IsNumbering, set_of}

-- those of the first n rules that have matched, in ascending order
pub record AreMatchedAt (rules : List NumberedRule) (marks : List Bool) (n : ℕ) (found : List ℕ) : Type 0 where
  pub rising : IsRising found
  pub each : (i : ℕ) → Contains found i ↔ ((i < n) × IsMatchedAt rules marks i)

-- the rules of which a position of the set ends a word, in ascending order
pub record AreMatchedBy (rules : List NumberedRule) (S found : List ℕ) : Type 0 where
  pub rising : IsRising found
  pub each : (i : ℕ) → Contains found i ↔ IsMatchedBy rules S i

-- these rules, at least one
pub record IsListOfSet (rules : List NumberedRule) (S found : List ℕ) : Type 0 where
  pub matched : AreMatchedBy rules S found
  pub some : found ≢ []

-- the number of the list of the set, or none if the set matches no rule
abbrev pub IsListNumber : List NumberedRule → List Positions → List ℕ → Option ℕ → Type 0
IsListNumber rules lists S found =
    MatchOption found ((i : ℕ) → IsMatchedBy rules S i → ⊥) (λ k. (k < length lists) × IsListOfSet rules S (set_of lists k))

-- the number of the set's list was found; that list is added if it is new
pub record AddsList (rules : List NumberedRule) (S : List ℕ) (old new : List Positions) (found : Option ℕ) : Type 0 where
  pub more : length old ≤ length new
  pub kept : (k : ℕ) → k < length old → set_of new k ≡ set_of old k
  pub added : (k : ℕ) → length old ≤ k → k < length new → IsListOfSet rules S (set_of new k)
  pub number : IsListNumber rules new S found

-- the set's list isn't among the lists, which are as many as there may be
pub record HasNoRoomForList (rules : List NumberedRule) (S : List ℕ) (lists : List Positions) (limit : ℕ) : Type 0 where
  pub full : length lists ≡ limit
  pub list : List ℕ
  pub is : IsListOfSet rules S list
  pub absent : (k : ℕ) → k < length lists → set_of lists k ≢ list

-- one of the sets has this list
pub record IsListOfSomeSet (rules : List NumberedRule) (sets : List Positions) (list : List ℕ) : Type 0 where
  pub place : ℕ
  pub there : place < length sets
  pub is : IsListOfSet rules (set_of sets place) list

-- each of the first n sets has the number of its list, and each list is that of one of the sets
pub record AreListed (rules : List NumberedRule) (sets lists : List Positions) (numbers : List (Option ℕ)) (n : ℕ) : Type 0 where
  pub long : length numbers ≡ n
  pub each : (j : ℕ) → j < n → IsListNumber rules lists (set_of sets j) (slice_index_or numbers j None)
  pub of_sets : (k : ℕ) → k < length lists → IsListOfSomeSet rules sets (set_of lists k)

-- the sets have more than n different lists
pub record HasMoreSetLists (rules : List NumberedRule) (sets : List Positions) (n : ℕ) : Type 0 where
  pub lists : List (List ℕ)
  pub count : length lists ≡ n + 1
  pub of_sets : (k : ℕ) → k < length lists → IsListOfSomeSet rules sets (slice_index_or lists k [])
  pub different : (j k : ℕ) → j < k → k < length lists → slice_index_or lists j [] ≢ slice_index_or lists k []

-- the table numbers at most as many lists as a state can accept
pub record IsListTable (lists : List Positions) (numbers : Numbers) : Type 0 where
  pub numbering : IsNumbering lists numbers
  pub room : length lists ≤ max_rules

-- no flag is set
pub record AreUnmarked (marks : List Bool) (total : ℕ) : Type 0 where
  pub long : length marks ≡ total
  pub clear : (q : ℕ) → flag marks q ≡ false

abbrev pub members_of : Positions → List ℕ
members_of s = s.items

-- the lists as lists of numbers
abbrev pub plain_lists : List Positions → List (List ℕ)
plain_lists lists = map members_of lists
