-- Texts that lead to two states.
use Rattle.std.proofs.Common.{◌≡◌, ℕ, ◌+◌, ◌<◌, ◌≤◌, Bool, [], ◌∷◌, ◌++◌, Some, length, sym, ◌∙◌, ap, arith}
use Rattle.std.proofs.lemmas.List.{length_push}
use Rattle.std.proofs.lemmas.List.Elements.{All-nil, All-push}
use Rattle.lx_automaton.specs.Automata.{Machine, accepted_at, accepted_by, start_of, state_after, state_count, target_of}
use Rattle.lx_reach.specs.Takers.{IsPair, IsTaker}
use Rattle.lx_reach.specs.declared.takers.Pair.{Pair}
use Rattle.lx_reach.proofs.Reaching.{both, no_bytes}

pub begun : (alone all : Machine) (pair : Pair) (condition : ℕ) (begin : Bool) → condition < length all.starts → pair.level ≡ 0 →
    pair.alone ≡ start_of alone condition begin → pair.all ≡ start_of all condition begin → pair.alone < state_count alone → pair.all < state_count all → IsPair alone all pair
begun alone all pair condition begin known level is_alone is_all below_alone below_all = record {
  condition = condition;
  begin = begin;
  text = [];
  known = known;
  bytes = All-nil (λ b. b < 256);
  long = omega arith;
  leads_alone = ap (λ (x : ℕ). Some x) (sym is_alone);
  leads_all = ap (λ (x : ℕ). Some x) (sym is_all);
  below_alone = below_alone;
  below_all = below_all;
}

-- ---- one byte more
pub behind : (alone all : Machine) (old new : Pair) (byte : ℕ) → byte < 256 → IsPair alone all old → target_of alone old.alone byte ≡ Some new.alone →
    target_of all old.all byte ≡ Some new.all → new.level ≤ old.level + 1 → new.alone < state_count alone → new.all < state_count all → IsPair alone all new
behind alone all old new byte small pair step_alone step_all level below_alone below_all = record {
  condition = pair.condition;
  begin = pair.begin;
  text = pair.text ++ byte ∷ [];
  known = pair.known;
  bytes = All-push (λ b. b < 256) pair.text byte pair.bytes small;
  long = (let l = length_push pair.text byte in let k = pair.long in omega arith);
  leads_alone = both alone (Some (start_of alone pair.condition pair.begin)) pair.text (byte ∷ [])
      ∙ ap (λ o. state_after alone o (byte ∷ [])) pair.leads_alone ∙ no_bytes alone (target_of alone old.alone byte) ∙ step_alone;
  leads_all = both all (Some (start_of all pair.condition pair.begin)) pair.text (byte ∷ [])
      ∙ ap (λ o. state_after all o (byte ∷ [])) pair.leads_all ∙ no_bytes all (target_of all old.all byte) ∙ step_all;
  below_alone = below_alone;
  below_all = below_all;
}

pub taken : (alone all : Machine) (pair : Pair) (own rule : ℕ) → IsPair alone all pair → 0 < pair.level → accepted_by alone pair.alone ≡ Some own →
    accepted_by all pair.all ≡ Some rule → IsTaker alone all rule
taken alone all pair own rule p level matched answered = record {
  condition = p.condition;
  begin = p.begin;
  text = p.text;
  known = p.known;
  bytes = p.bytes;
  some = (let l = p.long in omega arith);
  own = own;
  matched = ap (λ o. accepted_at alone o) p.leads_alone ∙ matched;
  taken = ap (λ o. accepted_at all o) p.leads_all ∙ answered;
}
