-- A text leads to each state: the empty one to a start, and to the state of a set a text that reaches the set.
use Rattle.std.proofs.Common.{◌≡◌, ◌≢◌, ℕ, zero, suc, ◌+◌, ◌-◌, ◌*◌, ◌<◌, inl, inr, Bool, true, false, List, [], Option, Some, None, length, sym, ◌∙◌, ap, subst, arith}
use Rattle.std.proofs.lemmas.Bool.{cases_lt}
use Rattle.std.proofs.lemmas.List.Elements.{All-nil}
use Rattle.lx_rules.specs.Plain.{PlainSpec}
use Rattle.lx_automaton.specs.Automata.{Machine, state_count, start_of, state_after}
use Rattle.lx_automaton.specs.Leading.{IsLedTo, AreAllLedTo}
use Rattle.lx_auto.specs.Drafting.{IsDrafted}
use Rattle.lx_auto.specs.Exploring.{IsExplored, IsReachedSet, start_count, start_number}
use Rattle.lx_auto.specs.Leaves.{PlainLeaf, AreLeavesOf, AreGroupsOf}
use Rattle.lx_auto.specs.PositionSets.{numbered, StartAndWord, InPositionSet}
use Rattle.lx_auto.specs.SetSteps.{IsSetOf}
use Rattle.lx_auto.specs.SetTable.{Positions, set_of}
use Rattle.lx_auto.specs.Simplified.{simplified_pattern}
use Rattle.lx_auto.proofs.Drafted.{IsAfter, read_after}
use Rattle.lx_auto.proofs.Membership.{same_rising}
use Rattle.lx_auto.proofs.MoreSets.{some_member}
use Rattle.lx_auto.proofs.SetStepped.{nothing_read}

-- the condition of a start, and a flag for line begin
start_parts : (s n : ℕ) → s < 2 * n → (c : ℕ) × (begin : Bool) × (c < n) × (s ≡ start_number c begin)
start_parts zero zero h = absurd (omega (arith, h))
start_parts (suc s) zero h = absurd (omega (arith, h))
start_parts zero (suc n) h = (0, false, (omega arith), (omega arith))
start_parts (suc zero) (suc n) h = (0, true, (omega arith), (omega arith))
start_parts (suc (suc s)) (suc n) h = let t = start_parts s n (omega (arith, h)) in (suc t.0, t.1, (let l = t.2 in omega arith), further t.0 t.1 t.3) where
  further : (c : ℕ) (begin : Bool) → s ≡ start_number c begin → suc (suc s) ≡ start_number (suc c) begin
  further c false e = omega (arith, e)
  further c true e = omega (arith, e)

module _ (spec : PlainSpec) (leaves : List PlainLeaf) (classes representatives : List ℕ) (sets : List Positions) (matched targets : List (Option ℕ)) (m : Machine)
    (of : AreLeavesOf (numbered (simplified_pattern spec.definitions) 0 spec.rules) leaves) (groups : AreGroupsOf leaves classes representatives)
    (explored : IsExplored spec (simplified_pattern spec.definitions) leaves representatives sets targets (start_count spec + length sets))
    (draft : IsDrafted (length spec.conditions) classes (length representatives) matched targets m) where
  led_to_start : (c : ℕ) (begin : Bool) → c < length spec.conditions → IsLedTo m (start_number c begin)
  led_to_start c begin h = record {
    condition = c;
    begin = begin;
    text = [];
    there = let e = draft.conditions_are in omega arith;
    bytes = All-nil (λ (b : ℕ). b < 256);
    leads = ap (λ (s : ℕ). Some s) (draft.starts_are c begin h);
  }

  -- sets of one text have one number
  same_number : (x : StartAndWord) (i j : ℕ) → i < length sets → j < length sets → IsSetOf spec (numbered (simplified_pattern spec.definitions) 0 spec.rules) x (set_of sets i) →
      IsSetOf spec (numbered (simplified_pattern spec.definitions) 0 spec.rules) x (set_of sets j) → i ≡ j
  same_number x i j hi hj of_i of_j = elim (cases_lt i j) [
    | inl less ↦ absurd (explored.reached.distinct i j less hj same)
    | inr more ↦ elim (cases_lt j i) [
      | inl less ↦ absurd (explored.reached.distinct j i less hi (sym same))
      | inr least ↦ omega (arith, more, least)
    ]
  ]
    where
      same : set_of sets i ≡ set_of sets j
      same =
          same_rising (set_of sets i) (set_of sets j) (explored.reached.reached i hi).rising (explored.reached.reached j hj).rising
          (λ q. ((λ h. (of_j q).1 ((of_i q).0 h)), (λ h. (of_i q).1 ((of_j q).0 h))))

  -- a position that the text of a reached set leads to
  some_position : (j : ℕ) → (set : IsReachedSet spec (numbered (simplified_pattern spec.definitions) 0 spec.rules) (set_of sets j)) →
      (q : ℕ) × InPositionSet spec (numbered (simplified_pattern spec.definitions) 0 spec.rules) set.from q
  some_position j set = let q = some_member (set_of sets j) set.some in (q.0, (set.leads q.0).0 q.1)

  some_text : (x : StartAndWord) (q : ℕ) → InPositionSet spec (numbered (simplified_pattern spec.definitions) 0 spec.rules) x q → x.word ≢ []
  some_text x q h e =
      nothing_read spec (simplified_pattern spec.definitions) 0 spec.rules x.condition x.begin q
      (subst (λ w. InPositionSet spec (numbered (simplified_pattern spec.definitions) 0 spec.rules) (record { condition = x.condition; begin = x.begin; word = w }) q) e h)

  -- the state to which the text of a set leads
  state_of_set : (x : StartAndWord) (j : ℕ) → j < length sets → IsSetOf spec (numbered (simplified_pattern spec.definitions) 0 spec.rules) x (set_of sets j) →
      (q : ℕ) → InPositionSet spec (numbered (simplified_pattern spec.definitions) 0 spec.rules) x q → (s : Option ℕ) →
      IsAfter spec (simplified_pattern spec.definitions) leaves classes representatives sets matched targets m of groups explored draft x s → s ≡ Some (start_count spec + j)
  state_of_set x j hj leads q h None none = absurd (none q h)
  state_of_set x j hj leads q h (Some s) is = ap (λ (n : ℕ). Some n) (is.2 ∙ ap (λ (k : ℕ). start_count spec + k) (same_number x is.0 j is.1 hj is.3 leads))

  led_to_set : (j : ℕ) → j < length sets → IsLedTo m (start_count spec + j)
  led_to_set j h =
      let set = explored.reached.reached j h in
      let x : StartAndWord = set.from in
      let member = some_position j set in
      record {
        condition = x.condition;
        begin = x.begin;
        text = x.word;
        there = let e = draft.conditions_are in let l = set.start in omega arith;
        bytes = set.bytes;
        leads =
            state_of_set x j h set.leads member.0 member.1 (state_after m (Some (start_of m x.condition x.begin)) x.word)
            (read_after spec (simplified_pattern spec.definitions) leaves classes representatives sets matched targets m of groups explored draft x.condition x.begin x.word set.start
            (some_text x member.0 member.1) set.bytes);
      }

  pub all_led_to : state_count m ≡ start_count spec + length sets → AreAllLedTo m
  all_led_to count = record {
    each = λ s h. elim (cases_lt s (start_count spec)) [
      | inl low ↦ let t = start_parts s (length spec.conditions) low in subst (IsLedTo m) (sym t.3) (led_to_start t.0 t.1 t.2)
      | inr high ↦
          let at : start_count spec + (s - start_count spec) ≡ s = omega (arith, high) in
          subst (IsLedTo m) at (led_to_set (s - start_count spec) (omega (arith, h, high, count)))
    ];
  }
