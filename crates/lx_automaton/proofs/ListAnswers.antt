-- The first rule of a list is the earliest one, and machines that answer alike have the same lists.
use Rattle.std.proofs.Common.{◌≡◌, ℕ, suc, ◌<◌, inl, inr, Bool, List, [], ◌∷◌, Option, Some, None, length, get_or, All, refl, sym, ◌∙◌, subst, arith}
use Rattle.std.specs.Prelude.{Contains, slice_get, slice_index_or}
use Rattle.std.proofs.lemmas.List.{get_or_default}
use Rattle.lx_rules.specs.Plain.{PlainSpec}
use Rattle.lx_automaton.specs.Automata.{Machine, answer}
use Rattle.lx_automaton.specs.Meaning.{IsAnswer}
use Rattle.lx_automaton.specs.Lists.{IsAscending, IsListOf, IsListAnswer, IsListAutomatonOf, first_rule}
use Rattle.lx_automaton.proofs.Members.{contains_head, contains_cases}

-- no member is less than the first one
first_least : (x q : ℕ) (xs : List ℕ) → IsAscending (x ∷ xs) → q < x → Contains (x ∷ xs) q → ⊥
first_least x q xs ascending less h = elim (contains_cases x q xs h) [
  | inl e ↦ absurd (omega arith)
  | inr c ↦
      let up = ascending 0 (suc c.0) (omega arith) (let m = c.1 in omega arith) in
      let e : get_or xs c.0 0 ≡ q = get_or_default xs c.0 0 q c.1 ∙ c.2 in
      absurd (omega arith)
]

first_of_list : (spec : PlainSpec) (condition : ℕ) (begin : Bool) (text rules : List ℕ) → IsListOf spec condition begin text rules →
    IsAnswer spec condition begin text (slice_get rules 0)
first_of_list spec condition begin text [] list = absurd (list.some refl)
first_of_list spec condition begin text (x ∷ xs) list =
    ((list.each x).0 (contains_head x xs), λ j less reaches. first_least x j xs list.ascending less ((list.each j).1 reaches))

pub first_answer : (spec : PlainSpec) (lists : List (List ℕ)) (condition : ℕ) (begin : Bool) (text : List ℕ) (found : Option ℕ) →
    IsListAnswer spec lists condition begin text found → IsAnswer spec condition begin text (first_rule lists found)
first_answer spec lists condition begin text None none = none
first_answer spec lists condition begin text (Some k) some = first_of_list spec condition begin text (slice_index_or lists k []) some.1

-- the answers are carried to a machine that answers alike
pub equal_answers : (spec : PlainSpec) (q r : Machine) (lists : List (List ℕ)) → length r.starts ≡ length q.starts →
    ((c : ℕ) (begin : Bool) (w : List ℕ) → c < length q.starts → All (λ b. b < 256) w → answer r c begin w ≡ answer q c begin w) →
    IsListAutomatonOf spec q lists → IsListAutomatonOf spec r lists
equal_answers spec q r lists starts same of = record {
  conditions = starts ∙ of.conditions;
  answers = λ c begin w hc all.
      let n = of.conditions in
      subst (IsListAnswer spec lists c begin w) (sym (same c begin w (omega arith) all)) (of.answers c begin w hc all);
  lists_are = of.lists_are;
}
