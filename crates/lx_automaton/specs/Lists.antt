-- All rules that match a text, and not only the earliest: REJECT goes from one to the next (POSIX.1-2017, XCU lex, Actions in lex). An automaton that
-- accepts numbers of lists of rules (Rabin and Scott 1959).
use Rattle.std.specs.Prelude.{◌≡◌, ◌≢◌, ℕ, zero, suc, ◌+◌, ◌<◌, ◌≤◌, ◌↔◌, Bool, List, [], ◌∷◌, length, take, drop, slice_get, slice_index, slice_index_or, Option, Some, None, MatchOption, All, Contains}
use Rattle.lx_rules.specs.Plain.{PlainSpec}
use Rattle.lx_automaton.specs.Automata.{Machine, answer}
use Rattle.lx_automaton.specs.Meaning.{ReachesWhole}

-- each number is greater than the one before
abbrev pub IsAscending : List ℕ → Type 0
IsAscending rules = (i j : ℕ) → i < j → j < length rules → slice_index rules i < slice_index rules j

-- in ascending order, the rules that fit under the condition so that their reach is the whole text: at least one
pub record IsListOf (spec : PlainSpec) (condition : ℕ) (begin : Bool) (text rules : List ℕ) : Type 0 where
  pub ascending : IsAscending rules
  pub each : (i : ℕ) → Contains rules i ↔ ReachesWhole spec condition begin text i
  pub some : rules ≢ []

-- the number of the list of these rules, or none if there is no such rule
abbrev pub IsListAnswer : PlainSpec → List (List ℕ) → ℕ → Bool → List ℕ → Option ℕ → Type 0
IsListAnswer spec lists condition begin text found =
    MatchOption found ((i : ℕ) → ReachesWhole spec condition begin text i → ⊥)
    (λ k. (k < length lists) × IsListOf spec condition begin text (slice_index_or lists k []))

-- the list of some text of bytes, from some start
pub record IsListOfSomeText (spec : PlainSpec) (rules : List ℕ) : Type 0 where
  pub condition : ℕ
  pub begin : Bool
  pub text : List ℕ
  pub there : condition < length spec.conditions
  pub bytes : All (λ b. b < 256) text
  pub is : IsListOf spec condition begin text rules

-- each list is that of some text, and no two are equal
pub record AreListsOf (spec : PlainSpec) (lists : List (List ℕ)) : Type 0 where
  pub each : (k : ℕ) → k < length lists → IsListOfSomeText spec (slice_index_or lists k [])
  pub different : (j k : ℕ) → j < k → k < length lists → slice_index_or lists j [] ≢ slice_index_or lists k []

-- A list automaton of a specification: a machine and lists. From every start condition, at line begin or elsewhere, its answer after every text is the
-- number of the list of all rules that reach the whole text.
pub record IsListAutomatonOf (spec : PlainSpec) (m : Machine) (lists : List (List ℕ)) : Type 0 where
  pub conditions : length m.starts ≡ length spec.conditions
  pub answers : (condition : ℕ) (begin : Bool) (text : List ℕ) → condition < length spec.conditions → All (λ b. b < 256) text →
      IsListAnswer spec lists condition begin text (answer m condition begin text)
  pub lists_are : AreListsOf spec lists

-- texts have more than n different lists
pub record HasMoreLists (spec : PlainSpec) (n : ℕ) : Type 0 where
  pub lists : List (List ℕ)
  pub count : length lists ≡ n + 1
  pub are : AreListsOf spec lists

-- the first rule of the list with this number
abbrev pub first_rule : List (List ℕ) → Option ℕ → Option ℕ
first_rule lists None = None
first_rule lists (Some k) = slice_get (slice_index_or lists k []) 0

-- the lists that are kept one after the other, the first of them from a place on, each up to its end
abbrev pub lists_from : List ℕ → ℕ → List ℕ → List (List ℕ)
lists_from rules from [] = []
lists_from rules from (end ∷ ends) = drop from (take end rules) ∷ lists_from rules end ends

-- each list ends at or after its beginning, and the last one at the end of all
abbrev pub AreEnds : ℕ → List ℕ → ℕ → Type 0
AreEnds from [] last = from ≡ last
AreEnds from (end ∷ ends) last = (from ≤ end) × AreEnds end ends last

-- the start of the list with this number
abbrev pub begin_of : ℕ → List ℕ → ℕ → ℕ
begin_of from ends zero = from
begin_of from ends (suc k) = slice_index ends k
