-- Rules that are never chosen, found one after the other.
use Rattle.std.proofs.Common.{◌≡◌, ℕ, ◌+◌, List, [], ◌∷◌, ◌++◌, Contains, subst, arith, inl, inr}
use Rattle.std.proofs.lemmas.Bool.{cases_lt}
use Rattle.std.proofs.lemmas.List.Elements.{All-push, Contains-push, Contains-append_left}
use Rattle.lx_tables.specs.Model.{Table}
use Rattle.lx_reach.specs.Chosen.{AreNeverChosen, IsEverChosen}

pub chosen : (table : Table) (n : ℕ) (rules : List ℕ) → AreNeverChosen table n rules → IsEverChosen table n → AreNeverChosen table (n + 1) rules
chosen table n rules are is = record {
  all = λ rule below never. elim (cases_lt rule n) as (λ _. Contains rules rule) [
    | inl less ↦ are.all rule less never
    | inr more ↦ (let same : n ≡ rule = omega arith in elim (never (subst (λ r. IsEverChosen table r) same is)) [ ])
  ];
  only = are.only;
}

pub unchosen : (table : Table) (n : ℕ) (rules : List ℕ) → AreNeverChosen table n rules → (IsEverChosen table n → ⊥) → AreNeverChosen table (n + 1) (rules ++ n ∷ [])
unchosen table n rules are not = record {
  all = λ rule below never. elim (cases_lt rule n) as (λ _. Contains (rules ++ n ∷ []) rule) [
    | inl less ↦ Contains-append_left rules (n ∷ []) rule (are.all rule less never)
    | inr more ↦ (let same : n ≡ rule = omega arith in subst (λ r. Contains (rules ++ n ∷ []) r) same (Contains-push rules n))
  ];
  only = All-push (λ rule. IsEverChosen table rule → ⊥) rules n are.only not;
}
