-- Each reached set is in the table, so there are at most as many of them as the table has.
use Rattle.std.proofs.Common.{◌≡◌, ◌≢◌, ℕ, zero, suc, ◌+◌, ◌-◌, ◌<◌, ◌≤◌, List, [], ◌∷◌, Option, Some, None, length, get_or, map, eqb, refl, sym, ◌∙◌, ap, subst, arith}
use Rattle.std.specs.Prelude.{slice_get, All}
use Rattle.std.proofs.lemmas.List.{length-map, get_or_default}
use Rattle.std.proofs.lemmas.Map.Steps.{length-le_from_distinct_below}
use Rattle.std.proofs.lemmas.Map.Keys.{IsDistinct-from_apart}
use Rattle.lx_rules.specs.Plain.{PlainSpec}
use Rattle.lx_automaton.specs.Automata.{Machine, start_of, state_after}
use Rattle.lx_auto.specs.Drafting.{IsDrafted}
use Rattle.lx_auto.specs.Exploring.{IsExplored, start_count}
use Rattle.lx_auto.specs.Leaves.{PlainLeaf, AreLeavesOf, AreGroupsOf}
use Rattle.lx_auto.specs.PositionSets.{numbered, StartAndWord, InPositionSet, HasMoreReachedSets}
use Rattle.lx_auto.specs.SetSteps.{IsSetOf}
use Rattle.lx_auto.specs.SetTable.{Positions, set_of}
use Rattle.lx_auto.specs.Simplified.{simplified_pattern}
use Rattle.lx_auto.proofs.Drafted.{IsAfter, read_after}
use Rattle.lx_auto.proofs.MoreSets.{same_position_sets}
use Rattle.lx_automaton.proofs.EncodedLists.{different}
use Rattle.lx_auto.proofs.SetStepped.{nothing_read}
use Rattle.lx_automaton.proofs.Members.{below_from_any}

at_map : (f : StartAndWord → ℕ) (pairs : List StartAndWord) (i : ℕ) (x : StartAndWord) → slice_get pairs i ≡ Some x → get_or (map f pairs) i 0 ≡ f x
at_map f [] zero x h = absurd (cc)
at_map f [] (suc i) x h = absurd (cc)
at_map f (y ∷ pairs) zero x h = ap f (let e : Some y ≡ Some x = h in cc)
at_map f (y ∷ pairs) (suc i) x h = at_map f pairs i x h

some_at : (pairs : List StartAndWord) (i : ℕ) → i < length pairs → (x : StartAndWord) × (slice_get pairs i ≡ Some x)
some_at [] i h = absurd (omega arith)
some_at (y ∷ pairs) zero h = (y, refl)
some_at (y ∷ pairs) (suc i) h = some_at pairs i (omega arith)

module _ (spec : PlainSpec) (leaves : List PlainLeaf) (classes representatives : List ℕ) (sets : List Positions) (matched targets : List (Option ℕ)) (m : Machine)
    (of : AreLeavesOf (numbered (simplified_pattern spec.definitions) 0 spec.rules) leaves) (groups : AreGroupsOf leaves classes representatives)
    (explored : IsExplored spec (simplified_pattern spec.definitions) leaves representatives sets targets (start_count spec + length sets))
    (draft : IsDrafted (length spec.conditions) classes (length representatives) matched targets m) where
  -- the number of the set that a word leads to
  set_number : Option ℕ → ℕ
  set_number None = 0
  set_number (Some s) = s - start_count spec

  number : StartAndWord → ℕ
  number x = set_number (state_after m (Some (start_of m x.condition x.begin)) x.word)

  -- a word that reaches a position leads to its set in the table
  leads : (x : StartAndWord) (q : ℕ) → x.condition < length spec.conditions → All (λ b. b < 256) x.word → InPositionSet spec (numbered (simplified_pattern spec.definitions) 0 spec.rules) x q →
      (number x < length sets) × IsSetOf spec (numbered (simplified_pattern spec.definitions) 0 spec.rules) x (set_of sets (number x))
  unfolding set_number number
  leads x q start bytes reached =
      by (state_after m (Some (start_of m x.condition x.begin)) x.word)
      (read_after spec (simplified_pattern spec.definitions) leaves classes representatives sets matched targets m of groups explored draft x.condition x.begin x.word start some_word bytes)
    where
      some_word : x.word ≢ []
      some_word e =
          nothing_read spec (simplified_pattern spec.definitions) 0 spec.rules x.condition x.begin q
          (subst (λ w. InPositionSet spec (numbered (simplified_pattern spec.definitions) 0 spec.rules) (record { condition = x.condition; begin = x.begin; word = w }) q) e reached)

      by : (s : Option ℕ) → IsAfter spec (simplified_pattern spec.definitions) leaves classes representatives sets matched targets m of groups explored draft x s →
          (set_number s < length sets) × IsSetOf spec (numbered (simplified_pattern spec.definitions) 0 spec.rules) x (set_of sets (set_number s))
      by None none = absurd (none q reached)
      by (Some s) is =
          let e : is.0 ≡ s - start_count spec = (let f = is.2 in omega arith) in
          (subst (λ j. j < length sets) e is.1, subst (λ j. IsSetOf spec (numbered (simplified_pattern spec.definitions) 0 spec.rules) x (set_of sets j)) e is.3)

  pub no_more : (limit : ℕ) → length sets ≤ limit → HasMoreReachedSets spec limit → ⊥
  no_more limit few more =
      let numbers = map number more.pairs in
      let long : length numbers ≡ length more.pairs = length-map more.pairs number in
      let count = more.count in
      let most = length-le_from_distinct_below numbers (length sets)
      (IsDistinct-from_apart eqb numbers (λ i j d less h.
      let hi : i < length numbers = omega arith in
      different (get_or numbers i d) (get_or numbers j d) (λ e.
      apart i j less (omega arith) (sym (get_or_default numbers i d 0 hi) ∙ e ∙ get_or_default numbers j d 0 h))))
      (λ q h. below_from_any numbers (length sets) q h (λ i l. below i (omega arith))) in
      omega arith
    where
      known : (i : ℕ) (x : StartAndWord) → slice_get more.pairs i ≡ Some x →
          (number x < length sets) × IsSetOf spec (numbered (simplified_pattern spec.definitions) 0 spec.rules) x (set_of sets (number x))
      known i x at =
          let some = more.filled i x at in
          leads x some.0 (more.starts i x at) (more.bytes i x at) ((same_position_sets spec x some.0).1 some.1)

      below : (i : ℕ) → i < length more.pairs → get_or (map number more.pairs) i 0 < length sets
      below i h = let x = some_at more.pairs i h in subst (λ n. n < length sets) (sym (at_map number more.pairs i x.0 x.1)) (known i x.0 x.1).0

      apart : (i j : ℕ) → i < j → j < length more.pairs → get_or (map number more.pairs) i 0 ≡ get_or (map number more.pairs) j 0 → ⊥
      apart i j less h e =
          let x = some_at more.pairs i (omega arith) in
          let y = some_at more.pairs j h in
          let same : number x.0 ≡ number y.0 = sym (at_map number more.pairs i x.0 x.1) ∙ e ∙ at_map number more.pairs j y.0 y.1 in
          let first = (known i x.0 x.1).1 in
          let second = subst (λ n. IsSetOf spec (numbered (simplified_pattern spec.definitions) 0 spec.rules) y.0 (set_of sets n)) (sym same) (known j y.0 y.1).1 in
          more.apart i j x.0 y.0 less x.1 y.1 (λ q. (
            (λ r. (same_position_sets spec y.0 q).0 ((second q).0 ((first q).1 ((same_position_sets spec x.0 q).1 r)))),
            (λ r. (same_position_sets spec x.0 q).0 ((first q).0 ((second q).1 ((same_position_sets spec y.0 q).1 r)))),
          ))
