-- The rules that are chosen for the texts of a rule that is never chosen: by tables of that rule alone, and by those of all rules.
use Rattle.std.specs.Prelude.{◌≡◌, ℕ, ◌<◌, ◌≤◌, Bool, All, List, Some, length}
use Rattle.lx_automaton.specs.Automata.{Machine, answer, start_of, state_after, state_count}
use Rattle.lx_reach.specs.declared.takers.Pair.{Pair}

-- the greatest number of pairs of states that are tried
abbrev pub max_pairs : ℕ
max_pairs = 20000

-- A text of at least one byte that the rule alone matches is answered by this rule if all rules take part.
pub record IsTaker (alone all : Machine) (rule : ℕ) : Type 0 where
  pub condition : ℕ
  pub begin : Bool
  pub text : List ℕ
  pub known : condition < length all.starts
  pub bytes : All (λ b. b < 256) text
  pub some : 0 < length text
  pub own : ℕ
  pub matched : answer alone condition begin text ≡ Some own
  pub taken : answer all condition begin text ≡ Some rule

-- one text leads to both states of the pair, and has at least as many bytes as the pair's level
pub record IsPair (alone all : Machine) (pair : Pair) : Type 0 where
  pub condition : ℕ
  pub begin : Bool
  pub text : List ℕ
  pub known : condition < length all.starts
  pub bytes : All (λ b. b < 256) text
  pub long : pair.level ≤ length text
  pub leads_alone : state_after alone (Some (start_of alone condition begin)) text ≡ Some pair.alone
  pub leads_all : state_after all (Some (start_of all condition begin)) text ≡ Some pair.all
  pub below_alone : pair.alone < state_count alone
  pub below_all : pair.all < state_count all
