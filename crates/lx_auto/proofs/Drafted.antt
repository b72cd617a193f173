-- The draft is an automaton, and a word leads in it to the state of its position set.
use Rattle.std.proofs.Common.{◌≡◌, ◌≢◌, ℕ, ◌+◌, ◌*◌, ◌<◌, ◌↔◌, inl, inr, Bool, true, false, List, [], ◌∷◌, ◌++◌, Option, Some, None, length, refl, sym, ◌∙◌, ap, subst, arith, append_assoc}
use Rattle.std.specs.Prelude.{slice_index, slice_index_or, Contains, All}
use Rattle.std.specs.Option.{option_map}
use Rattle.std.proofs.lemmas.List.{append-nil}
use Rattle.std.proofs.lemmas.List.Elements.{All-head, All-tail}
use Rattle.std.proofs.Math.ListN as math
use Rattle.lx_ere.specs.Regex.{Regex}
use Rattle.lx_rules.specs.Plain.{PlainSpec}
use Rattle.lx_auto.specs.Unfolded.{Unfolded}
use Rattle.lx_auto.specs.PositionSets.{numbered, StartAndWord, InPositionSet}
use Rattle.lx_auto.specs.SetSteps.{HasSomeByte, IsSetOf}
use Rattle.lx_auto.specs.Sets.{AreFirst, AreFollowing}
use Rattle.lx_auto.specs.Leaves.{PlainLeaf, has_byte, AreLeavesOf, AreGroupsOf}
use Rattle.lx_auto.specs.SetTable.{Positions, set_of, IsTarget}
use Rattle.lx_auto.specs.Exploring.{positions_with_byte, IsSource, IsExplored, start_number, start_count}
use Rattle.lx_automaton.specs.Automata.{Machine, start_of, class_target, target_of, state_after}
use Rattle.lx_auto.specs.Drafting.{IsDrafted}
use Rattle.lx_automaton.proofs.RowMajor.{in_row}
use Rattle.lx_automaton.proofs.Members.{contains_nil}
use Rattle.lx_auto.proofs.Reached.{positions_with_byte_means}
use Rattle.lx_auto.proofs.SetStepped.{first_set, next_set}

pub start_below : (c : ℕ) (begin : Bool) (n : ℕ) → c < n → start_number c begin < 2 * n
start_below c false n h = omega arith
start_below c true n h = omega arith

same_start : (c d : ℕ) (begin other : Bool) → start_number c begin ≡ start_number d other → (c ≡ d) × (begin ≡ other)
same_start c d false false e = (omega arith, refl)
same_start c d false true e = absurd (omega arith)
same_start c d true false e = absurd (omega arith)
same_start c d true true e = (omega arith, refl)

module _ (spec : PlainSpec) (tree_of : Regex → Unfolded) (leaves : List PlainLeaf) (classes representatives : List ℕ) (sets : List Positions)
    (matched targets : List (Option ℕ)) (m : Machine) (of : AreLeavesOf (numbered tree_of 0 spec.rules) leaves) (groups : AreGroupsOf leaves classes representatives)
    (explored : IsExplored spec tree_of leaves representatives sets targets (start_count spec + length sets))
    (draft : IsDrafted (length spec.conditions) classes (length representatives) matched targets m) where
  -- the target of a word: none if it reaches no position, otherwise the state of its set
  abbrev pub IsAfter : StartAndWord → Option ℕ → Type 0
  IsAfter x None = (q : ℕ) → InPositionSet spec (numbered tree_of 0 spec.rules) x q → ⊥
  IsAfter x (Some s) = (j : ℕ) × (j < length sets) × (s ≡ start_count spec + j) × IsSetOf spec (numbered tree_of 0 spec.rules) x (set_of sets j)

  -- a byte and the representative of its group
  has_representative : (b q : ℕ) → b < 256 → (has_byte leaves q (slice_index representatives (slice_index classes b)) ≡ true) ↔ HasSomeByte (numbered tree_of 0 spec.rules) q b
  has_representative b q h = (
    (λ e. (of.each q b).0 (groups.same q b h ∙ e)),
    (λ e. sym (groups.same q b h) ∙ (of.each q b).1 e),
  )

  -- a step to the target of those that have the byte
  step_after : (y : StartAndWord) (b : ℕ) (F : List ℕ) (t : Option ℕ) → b < 256
      → ((q : ℕ) → InPositionSet spec (numbered tree_of 0 spec.rules) y q ↔ (Contains F q × HasSomeByte (numbered tree_of 0 spec.rules) q b))
      → IsTarget sets t (positions_with_byte leaves (slice_index representatives (slice_index classes b)) F) → IsAfter y (option_map (λ j. 2 * length spec.conditions + j) t)
  step_after y b F None h each is = λ q r.
      let t = (each q).0 r in
      contains_nil q (subst (λ S. Contains S q) is
      ((positions_with_byte_means leaves (slice_index representatives (slice_index classes b)) F q).1 (t.0, (has_representative b q h).1 t.1)))
  step_after y b F (Some j) h each is = (
    j,
    is.1,
    refl,
    λ q.
        let means = positions_with_byte_means leaves (slice_index representatives (slice_index classes b)) F q in (
          (λ k. let t = means.0 (subst (λ S. Contains S q) is.2 k) in (each q).1 (t.0, (has_representative b q h).0 t.1)),
          (λ r. let t = (each q).0 r in subst (λ S. Contains S q) (sym is.2) (means.1 (t.0, (has_representative b q h).1 t.1))),
        ),
  )

  -- the target of a state on a byte
  target_is : (i b : ℕ) → target_of m i b ≡ option_map (λ j. 2 * length spec.conditions + j) (slice_index_or targets (i * length representatives + slice_index classes b) None)
  target_is i b =
      ap (λ (xs : List ℕ). class_target m i (slice_index xs b)) draft.classes_are
      ∙ ap (λ (w : ℕ). slice_index_or m.targets (i * w + slice_index classes b) None) draft.width_is
      ∙ ap (λ (xs : List (Option ℕ)). slice_index_or xs (i * length representatives + slice_index classes b) None) draft.targets_are
      ∙ math.get_or-map (option_map (λ j. 2 * length spec.conditions + j)) targets (i * length representatives + slice_index classes b) None

  -- the facts about a step of a state
  step_at : (i b : ℕ) → i < start_count spec + length sets → b < 256 →
      (F : List ℕ) × IsSource spec (numbered tree_of 0 spec.rules) sets i F
      × IsTarget sets (slice_index_or targets (i * length representatives + slice_index classes b) None) (positions_with_byte leaves (slice_index representatives (slice_index classes b)) F)
  step_at i b hi hb =
      explored.steps.each i (slice_index classes b) (groups.below b hb) (in_row i (slice_index classes b) (start_count spec + length sets) (length representatives) hi (groups.below b hb))

  -- one byte from a start
  first_after : (c : ℕ) (begin : Bool) (b : ℕ) → c < length spec.conditions → b < 256 →
      IsAfter (record { condition = c; begin = begin; word = b ∷ [] }) (target_of m (start_number c begin) b)
  first_after c begin b hc hb =
      let low = start_below c begin (length spec.conditions) hc in
      let step = step_at (start_number c begin) b (omega arith) hb in
      subst (IsAfter (record { condition = c; begin = begin; word = b ∷ [] })) (sym (target_is (start_number c begin) b))
      (step_after (record { condition = c; begin = begin; word = b ∷ [] }) b step.0 _ hb (each step.0 (source step.0 step.1)) step.2)
    where
      source : (F : List ℕ) → IsSource spec (numbered tree_of 0 spec.rules) sets (start_number c begin) F → AreFirst spec (numbered tree_of 0 spec.rules) c begin F
      source F given = elim given [
        | inl s ↦
            let e = same_start c s.0 begin s.1 s.3 in
            subst (λ d. AreFirst spec (numbered tree_of 0 spec.rules) d begin F) (sym e.0)
            (subst (λ other. AreFirst spec (numbered tree_of 0 spec.rules) s.0 other F) (sym e.1) s.4)
        | inr s ↦ let low = start_below c begin (length spec.conditions) hc in let e = s.2 in absurd (omega arith)
      ]

      each : (F : List ℕ) → AreFirst spec (numbered tree_of 0 spec.rules) c begin F → (q : ℕ) →
          InPositionSet spec (numbered tree_of 0 spec.rules) (record { condition = c; begin = begin; word = b ∷ [] }) q ↔ (Contains F q × HasSomeByte (numbered tree_of 0 spec.rules) q b)
      each F first q =
          let s = first_set spec tree_of 0 spec.rules c begin b q in (
            (λ r. let t = s.0 r in ((first.each q).1 t.0, t.1)),
            (λ t. s.1 ((first.each q).0 t.0, t.1)),
          )

  -- one byte more
  next_after : (c : ℕ) (begin : Bool) (u : List ℕ) (b : ℕ) (s : Option ℕ) → u ≢ [] → b < 256 → IsAfter (record { condition = c; begin = begin; word = u }) s →
      IsAfter (record { condition = c; begin = begin; word = u ++ b ∷ [] }) (state_after m s (b ∷ []))
  next_after c begin u b None ne hb is = λ q r.
      let t = (next_set spec tree_of 0 spec.rules c begin u [] b q ne (λ p. ((λ h. absurd (contains_nil p h)), (λ h. absurd (is p h))))).0 r in
      contains_nil t.0.from t.0.within
  next_after c begin u b (Some s) ne hb is =
      let step = step_at s b (let e = is.2 in let l = is.1 in omega arith) hb in
      let follow = source step.0 step.1 in
      subst (IsAfter (record { condition = c; begin = begin; word = u ++ b ∷ [] })) (sym (one_step (target_of m s b)) ∙ refl)
      (subst (IsAfter (record { condition = c; begin = begin; word = u ++ b ∷ [] })) (sym (target_is s b))
      (step_after (record { condition = c; begin = begin; word = u ++ b ∷ [] }) b step.0 _ hb (each step.0 follow) step.2))
    where
      one_step : (t : Option ℕ) → state_after m t [] ≡ t
      one_step None = refl
      one_step (Some t) = refl

      source : (F : List ℕ) → IsSource spec (numbered tree_of 0 spec.rules) sets s F → AreFollowing (numbered tree_of 0 spec.rules) (set_of sets is.0) F
      source F given = elim given [
        | inl g ↦ let low = start_below g.0 g.1 (length spec.conditions) g.2 in let e = is.2 in let f = g.3 in absurd (omega arith)
        | inr g ↦
            let e : g.0 ≡ is.0 = (let f = is.2 in let h = g.2 in omega arith) in
            subst (λ j. AreFollowing (numbered tree_of 0 spec.rules) (set_of sets j) F) e g.3
      ]

      each : (F : List ℕ) → AreFollowing (numbered tree_of 0 spec.rules) (set_of sets is.0) F → (q : ℕ) →
          InPositionSet spec (numbered tree_of 0 spec.rules) (record { condition = c; begin = begin; word = u ++ b ∷ [] }) q ↔ (Contains F q × HasSomeByte (numbered tree_of 0 spec.rules) q b)
      each F follow q =
          let n = next_set spec tree_of 0 spec.rules c begin u (set_of sets is.0) b q ne is.3 in (
            (λ r. let t = n.0 r in ((follow.each q).1 t.0, t.1)),
            (λ t. n.1 ((follow.each q).0 t.0, t.1)),
          )

  -- a word more
  word_after : (c : ℕ) (begin : Bool) (u w : List ℕ) (s : Option ℕ) → u ≢ [] → All (λ b. b < 256) w → IsAfter (record { condition = c; begin = begin; word = u }) s →
      IsAfter (record { condition = c; begin = begin; word = u ++ w }) (state_after m s w)
  word_after c begin u [] None ne all is = subst (λ v. IsAfter (record { condition = c; begin = begin; word = v }) None) (sym (append-nil u)) is
  word_after c begin u [] (Some s) ne all is = subst (λ v. IsAfter (record { condition = c; begin = begin; word = v }) (Some s)) (sym (append-nil u)) is
  word_after c begin u (b ∷ w) s ne all is =
      let hb = All-head (λ b. b < 256) b w all in
      subst (λ v. IsAfter (record { condition = c; begin = begin; word = v }) (state_after m s (b ∷ w))) (append_assoc u (b ∷ []) w)
      (subst (IsAfter (record { condition = c; begin = begin; word = (u ++ b ∷ []) ++ w })) (onwards s)
      (word_after c begin (u ++ b ∷ []) w (state_after m s (b ∷ [])) (longer u) (All-tail (λ b. b < 256) b w all) (next_after c begin u b s ne hb is)))
    where
      longer : (xs : List ℕ) → xs ++ b ∷ [] ≢ []
      longer [] e = absurd (cc)
      longer (x ∷ xs) e = absurd (cc)

      after_step : (t : Option ℕ) → state_after m (state_after m t []) w ≡ state_after m t w
      after_step None = refl
      after_step (Some t) = refl

      onwards : (t : Option ℕ) → state_after m (state_after m t (b ∷ [])) w ≡ state_after m t (b ∷ w)
      onwards None = refl
      onwards (Some t) = after_step (target_of m t b)

  -- a word that isn't empty, from a start
  pub read_after : (c : ℕ) (begin : Bool) (w : List ℕ) → c < length spec.conditions → w ≢ [] → All (λ b. b < 256) w →
      IsAfter (record { condition = c; begin = begin; word = w }) (state_after m (Some (start_of m c begin)) w)
  read_after c begin [] hc ne all = absurd (ne refl)
  read_after c begin (b ∷ w) hc ne all =
      let hb = All-head (λ b. b < 256) b w all in
      subst (λ s. IsAfter (record { condition = c; begin = begin; word = b ∷ w }) (state_after m (Some s) (b ∷ w))) (sym (draft.starts_are c begin hc))
      (word_after c begin (b ∷ []) w (target_of m (start_number c begin) b) (λ e. absurd (cc)) (All-tail (λ b. b < 256) b w all) (first_after c begin b hc hb))
