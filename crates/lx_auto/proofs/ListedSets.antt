-- The lists of sets, set by set, and the table of their numbers.
use Rattle.std.proofs.Common.{◌≡◌, ◌≢◌, ℕ, ◌+◌, ◌<◌, inl, inr, List, [], ◌∷◌, ◌++◌, Option, Some, None, length, get_or, sym, ◌∙◌, ap, subst, arith}
use Rattle.std.specs.Prelude.{Contains}
use Rattle.std.proofs.lemmas.Bool.{cases_lt}
use Rattle.std.proofs.lemmas.List.{get_or_append_left, get_or_push, length_push}
use Rattle.lx_automaton.proofs.Members.{contains_nil}
use Rattle.lx_auto.specs.PositionSets.{NumberedRule}
use Rattle.lx_auto.specs.RuleLists.{AreMatchedBy, IsListOfSet, IsListNumber, AddsList, HasNoRoomForList, IsListOfSomeSet, AreListed, HasMoreSetLists}
use Rattle.lx_auto.specs.SetSteps.{IsMatchedBy}
use Rattle.lx_auto.specs.SetTable.{Positions, Numbers, words_of, set_of, IsNumbering}
use Rattle.lx_auto.proofs.Reached.{lists_with, lists_length, lists_at, lists_last}
use Rattle.lx_auto.proofs.SetNumbers.{get_along}
use Rattle.lx_auto.proofs.StepAll.{some_at}

-- a set that matches a rule has a list
pub list_of_set : (rules : List NumberedRule) (S found : List ℕ) (i : ℕ) → IsMatchedBy rules S i → AreMatchedBy rules S found → IsListOfSet rules S found
list_of_set rules S found i matched are = record {
  matched = are;
  some = λ empty. contains_nil i (subst (λ l. Contains l i) empty ((are.each i).1 matched));
}

-- a number stays as lists are added
number_kept : (rules : List NumberedRule) (S T : List ℕ) (old new : List Positions) (added found : Option ℕ) → AddsList rules S old new added →
    IsListNumber rules old T found → IsListNumber rules new T found
number_kept rules S T old new added None on none = none
number_kept rules S T old new added (Some k) on some =
    let more = on.more in
    let there = some.0 in
    ((omega arith), subst (λ l. IsListOfSet rules T l) (sym (on.kept k there)) some.1)

module _ (rules : List NumberedRule) (sets lists : List Positions) (S : List ℕ) (numbers : List (Option ℕ)) (n : ℕ) (here : n < length sets) (at : set_of sets n ≡ S)
    (so_far : AreListed rules sets lists numbers n) where
  -- one set more
  pub listed_push : (new : List Positions) (found : Option ℕ) → AddsList rules S lists new found → AreListed rules sets new (numbers ++ found ∷ []) (n + 1)
  listed_push new found on =
      let long = so_far.long in
      record {
        long = let l = length_push numbers found in omega arith;
        each = λ j h. elim (cases_lt j n) [
          | inl less ↦
              subst (λ o. IsListNumber rules new (set_of sets j) o) (sym (get_or_append_left numbers (found ∷ []) None j (omega arith)))
              (number_kept rules S (set_of sets j) lists new found (get_or numbers j None) on (so_far.each j less))
          | inr more ↦
              let end : length numbers ≡ j = omega arith in
              let is : n ≡ j = omega arith in
              subst (λ o. IsListNumber rules new (set_of sets j) o) (sym (get_or_push numbers found None j end))
              (subst (λ T. IsListNumber rules new T found) (sym at ∙ ap (λ i. set_of sets i) is) on.number)
        ];
        of_sets = λ k h. elim (cases_lt k (length lists)) [
          | inl less ↦ subst (λ l. IsListOfSomeSet rules sets l) (sym (on.kept k less)) (so_far.of_sets k less)
          | inr more ↦ record { place = n; there = here; is = subst (λ T. IsListOfSet rules T (set_of new k)) (sym at) (on.added k more h) }
        ];
      }

  -- one list too many
  pub more_lists : (limit : ℕ) → ((j k : ℕ) → j < k → k < length lists → set_of lists j ≢ set_of lists k) → HasNoRoomForList rules S lists limit → HasMoreSetLists rules sets limit
  more_lists limit different lacks =
      let full = lacks.full in
      let long = lists_length lists lacks.list in
      record {
        lists = lists_with lists lacks.list;
        count = omega arith;
        of_sets = λ k h. elim (cases_lt k (length lists)) [
          | inl less ↦ subst (λ l. IsListOfSomeSet rules sets l) (sym (lists_at lists lacks.list k less)) (so_far.of_sets k less)
          | inr more ↦
              let last : k ≡ length lists = omega arith in
              subst (λ l. IsListOfSomeSet rules sets l) (sym (ap (λ i. get_or (lists_with lists lacks.list) i []) last ∙ lists_last lists lacks.list))
              (record { place = n; there = here; is = subst (λ T. IsListOfSet rules T lacks.list) (sym at) lacks.is })
        ];
        different = λ j k less h. let first : j < length lists = omega arith in elim (cases_lt k (length lists)) [
          | inl before ↦ λ e. different j k less before (sym (lists_at lists lacks.list j first) ∙ e ∙ lists_at lists lacks.list k before)
          | inr more ↦
              let last : k ≡ length lists = omega arith in
              λ e. lacks.absent j first (sym (lists_at lists lacks.list j first) ∙ e ∙ ap (λ i. get_or (lists_with lists lacks.list) i []) last ∙ lists_last lists lacks.list)
        ];
      }

-- lists that are numbered are different
pub numbered_differ : (lists : List Positions) (numbers : Numbers) → IsNumbering lists numbers → (j k : ℕ) → j < k → k < length lists → set_of lists j ≢ set_of lists k
numbered_differ lists numbers is j k less within e =
    let s = some_at lists j (omega arith) in
    let t = some_at lists k within in
    let items : s.0.items ≡ t.0.items = sym (ap words_of s.1) ∙ e ∙ ap words_of t.1 in
    let one : Some j ≡ Some k = sym (is.known j s.0 s.1) ∙ get_along numbers s.0 t.0 items ∙ is.known k t.0 t.1 in
    let same_place : j ≡ k = cc in
    absurd (omega arith)

pub nothing_listed : (rules : List NumberedRule) (sets lists : List Positions) (numbers : List (Option ℕ)) → lists ≡ [] → numbers ≡ [] → AreListed rules sets lists numbers 0
nothing_listed rules sets lists numbers no_lists no_numbers = record {
  long = ap length no_numbers;
  each = λ j h. absurd (omega arith);
  of_sets = λ k h. absurd (let e = ap length no_lists in omega arith);
}
