-- One more byte leads from a reached set to a reached set, and the table of sets grows only by reached sets.
use Rattle.std.proofs.Common.{◌≡◌, ◌≢◌, ℕ, zero, suc, ◌+◌, ◌*◌, ◌<◌, ◌⊎◌, ◌↔◌, inl, inr, Bool, true, false, List, [], ◌∷◌, ◌++◌, Option, Some, None, length, get_or, refl, sym, ◌∙◌, ap, subst, arith}
use Rattle.std.specs.Prelude.{slice_get, slice_index, Contains}
use Rattle.std.proofs.lemmas.Bool.{cases_lt}
use Rattle.std.proofs.lemmas.Grind.{common_steps}
use Rattle.std.proofs.Math.Seq.{get_or-append_seam}
use Rattle.std.proofs.lemmas.List.Elements.{All-nil, All-push}
use Rattle.lx_ere.specs.Regex.{Regex}
use Rattle.lx_rules.specs.Plain.{PlainRule, PlainSpec}
use Rattle.lx_auto.specs.Unfolded.{Unfolded, position_count}
use Rattle.lx_auto.specs.Counts.{newline_count}
use Rattle.lx_auto.specs.Following.{AreNumbered}
use Rattle.lx_auto.proofs.Ranges.{ranges_apart}
use Rattle.lx_auto.specs.PositionSets.{NumberedRule, numbered, CanHaveReadLast}
use Rattle.lx_auto.specs.SetSteps.{IsRising}
use Rattle.lx_auto.specs.Sets.{AreFollowing, AreFirst}
use Rattle.lx_auto.specs.Leaves.{PlainLeaf, has_byte, AreLeavesOf}
use Rattle.lx_auto.specs.SetTable.{Positions, set_of, IsTarget, IsExtendedBy}
use Rattle.lx_auto.specs.Exploring.{positions_with_byte, IsReachedSet, AreReachedSets, HasMoreSets, IsSource, HaveSteps, IsExplored, IsRowOf}
use Rattle.lx_automaton.proofs.Members.{contains_nil, contains_head, contains_tail, contains_cases, contains_at}
use Rattle.lx_auto.proofs.SetLists.{target_kept, same_row}
use Rattle.lx_auto.proofs.SetStepped.{nothing_read, first_set, next_set}

bool_cases : (b : Bool) → (b ≡ true) ⊎ (b ≡ false)
bool_cases true = inl refl
bool_cases false = inr refl

-- the members that have a byte
pub positions_with_byte_means : (leaves : List PlainLeaf) (b : ℕ) (F : List ℕ) (q : ℕ) → Contains (positions_with_byte leaves b F) q ↔ (Contains F q × (has_byte leaves q b ≡ true))
positions_with_byte_means leaves b [] q = ((λ h. absurd (contains_nil q h)), (λ h. absurd (contains_nil q h.0)))
positions_with_byte_means leaves b (x ∷ F) q = elim (bool_cases (has_byte leaves x b)) [
  | inl has ↦
      let at : positions_with_byte leaves b (x ∷ F) ≡ x ∷ positions_with_byte leaves b F = grind (arith, common_steps) in
      let m = positions_with_byte_means leaves b F q in (
        (λ h. elim (contains_cases x q (positions_with_byte leaves b F) (subst (λ l. Contains l q) at h)) [
          | inl e ↦ (subst (λ z. Contains (x ∷ F) z) e (contains_head x F), subst (λ z. has_byte leaves z b ≡ true) e has)
          | inr c ↦ let t = m.0 c in (contains_tail x q F t.0, t.1)
        ]),
        (λ h. subst (λ l. Contains l q) (sym at) (elim (contains_cases x q F h.0) [
          | inl e ↦ subst (λ z. Contains (x ∷ positions_with_byte leaves b F) z) e (contains_head x (positions_with_byte leaves b F))
          | inr c ↦ contains_tail x q (positions_with_byte leaves b F) (m.1 (c, h.1))
        ])),
      )
  | inr lacks ↦
      let at : positions_with_byte leaves b (x ∷ F) ≡ positions_with_byte leaves b F = grind (arith, common_steps) in
      let m = positions_with_byte_means leaves b F q in (
        (λ h. let t = m.0 (subst (λ l. Contains l q) at h) in (contains_tail x q F t.0, t.1)),
        (λ h. subst (λ l. Contains l q) (sym at) (elim (contains_cases x q F h.0) [
          | inl e ↦ let no : false ≡ true = sym (subst (λ z. has_byte leaves z b ≡ false) e lacks) ∙ h.1 in absurd (cc)
          | inr c ↦ m.1 (c, h.1)
        ])),
      )
]

rising_tail : (x : ℕ) (xs : List ℕ) → IsRising (x ∷ xs) → IsRising xs
rising_tail x xs rising i j h l = rising (suc i) (suc j) (omega arith) (omega arith)

rising_head : (x : ℕ) (xs : List ℕ) → IsRising (x ∷ xs) → (q : ℕ) → Contains xs q → x < q
rising_head x xs rising q h =
    let l = rising 0 (suc h.0) (omega arith) (let m = h.1 in omega arith) in
    let e : get_or xs h.0 0 ≡ q = default xs h.0 h.1 ∙ h.2 in
    omega arith
  where
    default : (ys : List ℕ) (k : ℕ) → k < length ys → get_or ys k 0 ≡ get_or ys k q
    default [] k h = absurd (omega arith)
    default (y ∷ ys) zero h = refl
    default (y ∷ ys) (suc k) h = default ys k (omega arith)

rising_cons : (x : ℕ) (xs : List ℕ) → ((q : ℕ) → Contains xs q → x < q) → IsRising xs → IsRising (x ∷ xs)
rising_cons x xs below rising zero zero h l = absurd (omega arith)
rising_cons x xs below rising zero (suc j) h l = below (get_or xs j 0) (contains_at xs j (omega arith))
rising_cons x xs below rising (suc i) zero h l = absurd (omega arith)
rising_cons x xs below rising (suc i) (suc j) h l = rising i j (omega arith) (omega arith)

pub positions_with_byte_rise : (leaves : List PlainLeaf) (b : ℕ) (F : List ℕ) → IsRising F → IsRising (positions_with_byte leaves b F)
positions_with_byte_rise leaves b [] rising = λ i j h l. absurd (omega arith)
positions_with_byte_rise leaves b (x ∷ F) rising = elim (bool_cases (has_byte leaves x b)) [
  | inl has ↦
      let at : positions_with_byte leaves b (x ∷ F) ≡ x ∷ positions_with_byte leaves b F = grind (arith, common_steps) in
      subst (λ l. IsRising l) (sym at)
      (rising_cons x (positions_with_byte leaves b F) (λ q c. rising_head x F rising q ((positions_with_byte_means leaves b F q).0 c).0) (positions_with_byte_rise leaves b F (rising_tail x F rising)))
  | inr lacks ↦
      let at : positions_with_byte leaves b (x ∷ F) ≡ positions_with_byte leaves b F = grind (arith, common_steps) in
      subst (λ l. IsRising l) (sym at) (positions_with_byte_rise leaves b F (rising_tail x F rising))
]

-- a list that isn't empty has a member
some_member : (S : List ℕ) → S ≢ [] → (q : ℕ) × Contains S q
some_member [] ne = absurd (ne refl)
some_member (x ∷ S) ne = (x, contains_head x S)

module _ (spec : PlainSpec) (tree_of : Regex → Unfolded) (leaves : List PlainLeaf)
    (of : AreLeavesOf (numbered tree_of 0 spec.rules) leaves) where
  -- from a start
  pub reached_first : (c : ℕ) (begin : Bool) (b : ℕ) (F : List ℕ) → c < length spec.conditions → b < 256 → AreFirst spec (numbered tree_of 0 spec.rules) c begin F →
      positions_with_byte leaves b F ≢ [] → IsReachedSet spec (numbered tree_of 0 spec.rules) (positions_with_byte leaves b F)
  reached_first c begin b F start byte first ne = record {
    from = record { condition = c; begin = begin; word = b ∷ [] };
    start = start;
    bytes = All-push (λ x. x < 256) [] b (All-nil (λ x. x < 256)) byte;
    leads = λ q.
        let step = first_set spec tree_of 0 spec.rules c begin b q in
        let m = positions_with_byte_means leaves b F q in (
          (λ h. let t = m.0 h in step.1 ((first.each q).0 t.0, (of.each q b).0 t.1)),
          (λ r. let t = step.0 r in m.1 ((first.each q).1 t.0, (of.each q b).1 t.1)),
        );
    rising = positions_with_byte_rise leaves b F first.rising;
    some = ne;
  }

  -- from a set
  pub reached_next : (S : List ℕ) (b : ℕ) (F : List ℕ) → b < 256 → IsReachedSet spec (numbered tree_of 0 spec.rules) S → AreFollowing (numbered tree_of 0 spec.rules) S F →
      positions_with_byte leaves b F ≢ [] → IsReachedSet spec (numbered tree_of 0 spec.rules) (positions_with_byte leaves b F)
  reached_next S b F byte reached next ne = record {
    from = record { condition = reached.from.condition; begin = reached.from.begin; word = reached.from.word ++ b ∷ [] };
    start = reached.start;
    bytes = All-push (λ x. x < 256) reached.from.word b reached.bytes byte;
    leads = λ q.
        let step = next_set spec tree_of 0 spec.rules reached.from.condition reached.from.begin reached.from.word S b q some_word reached.leads in
        let m = positions_with_byte_means leaves b F q in (
          (λ h. let t = m.0 h in step.1 ((next.each q).0 t.0, (of.each q b).0 t.1)),
          (λ r. let t = step.0 r in m.1 ((next.each q).1 t.0, (of.each q b).1 t.1)),
        );
    rising = positions_with_byte_rise leaves b F next.rising;
    some = ne;
  }
    where
      some_word : reached.from.word ≢ []
      some_word e =
          let q = some_member S reached.some in
          nothing_read spec tree_of 0 spec.rules reached.from.condition reached.from.begin q.0
          (subst (λ w. CanHaveReadLast spec (numbered tree_of 0 spec.rules) reached.from.condition reached.from.begin w q.0) e ((reached.leads q.0).0 q.1))

  -- from either
  pub reached_from : (sets : List Positions) (i b : ℕ) (F : List ℕ) → b < 256 → AreReachedSets spec (numbered tree_of 0 spec.rules) sets →
      IsSource spec (numbered tree_of 0 spec.rules) sets i F → positions_with_byte leaves b F ≢ [] → IsReachedSet spec (numbered tree_of 0 spec.rules) (positions_with_byte leaves b F)
  reached_from sets i b F byte are source ne = elim source [
    | inl s ↦ reached_first s.0 s.1 b F s.2 byte s.4 ne
    | inr s ↦ reached_next (set_of sets s.0) b F byte (are.reached s.0 s.1) s.3 ne
  ]

-- the table goes on with a reached set
pub reached_after : (spec : PlainSpec) (rules : List NumberedRule) (old new : List Positions) (set : List ℕ) → AreReachedSets spec rules old → IsExtendedBy old new set →
    IsReachedSet spec rules set → (length new ≡ length old) ⊎ ((i : ℕ) → i < length old → set_of old i ≢ set) → AreReachedSets spec rules new
reached_after spec rules old new set are on is fresh = record {
  reached = λ i h. elim (cases_lt i (length old)) [
    | inl l ↦ subst (λ s. IsReachedSet spec rules s) (sym (on.kept i l)) (are.reached i l)
    | inr l ↦ subst (λ s. IsReachedSet spec rules s) (sym (on.added i l h)) is
  ];
  distinct = λ i j lt h. let m = on.at_most in elim (cases_lt j (length old)) [
    | inl l ↦ let li : i < length old = omega arith in λ e. are.distinct i j lt l (sym (on.kept i li) ∙ e ∙ on.kept j l)
    | inr l ↦ let li : i < length old = omega arith in elim fresh [
      | inl same ↦ absurd (omega arith)
      | inr new_one ↦ λ e. new_one i li (sym (on.kept i li) ∙ e ∙ on.added j l h)
    ]
  ];
}

pub source_kept : (spec : PlainSpec) (rules : List NumberedRule) (old new : List Positions) (set F : List ℕ) (i : ℕ) → IsExtendedBy old new set →
    IsSource spec rules old i F → IsSource spec rules new i F
source_kept spec rules old new set F i on source = elim source [
  | inl s ↦ inl s
  | inr s ↦ inr (s.0, (let m = on.more in let l = s.1 in omega arith), s.2, subst (λ S. AreFollowing rules S F) (sym (on.kept s.0 s.1)) s.3)
]

-- the steps that are known stay known, and one more is
pub steps_push : (spec : PlainSpec) (rules : List NumberedRule) (leaves : List PlainLeaf) (reps : List ℕ) (old new : List Positions) (targets : List (Option ℕ))
    (state class : ℕ) (t : Option ℕ) (F : List ℕ) → HaveSteps spec rules leaves reps old targets (state * length reps + class) → class < length reps →
    IsSource spec rules old state F → IsExtendedBy old new (positions_with_byte leaves (slice_index reps class) F) → IsTarget new t (positions_with_byte leaves (slice_index reps class) F) →
    HaveSteps spec rules leaves reps new (targets ++ t ∷ []) (state * length reps + class + 1)
steps_push spec rules leaves reps old new targets state class t F have hc source on is = record {
  long = let e = have.long in grind (arith, common_steps);
  each = λ i c h l.
      let long = have.long in
      elim (cases_lt (i * length reps + c) (state * length reps + class)) [
        | inl k ↦
            let before = have.each i c h k in
            let g : get_or (targets ++ t ∷ []) (i * length reps + c) None ≡ get_or targets (i * length reps + c) None = grind (arith, common_steps) in (
              before.0,
              source_kept spec rules old new (positions_with_byte leaves (slice_index reps class) F) before.0 i on before.1,
              subst (λ x. IsTarget new x (positions_with_byte leaves (slice_index reps c) before.0)) (sym g)
                  (target_kept old new (positions_with_byte leaves (slice_index reps class) F) on (get_or targets (i * length reps + c) None) (positions_with_byte leaves (slice_index reps c) before.0) before.2),
            )
        | inr k ↦
            let e : i * length reps + c ≡ state * length reps + class = omega arith in
            let s = same_row i state c class (length reps) h hc e in
            let n : i * length reps + c ≡ length targets = omega arith in
            let g : get_or (targets ++ t ∷ []) (i * length reps + c) None ≡ t = ap (λ x. get_or (targets ++ t ∷ []) x None) n ∙ get_or-append_seam targets t [] None in (
              F,
              source_kept spec rules old new (positions_with_byte leaves (slice_index reps class) F) F i on (subst (λ x. IsSource spec rules old x F) (sym s.0) source),
              subst (λ x. IsTarget new x (positions_with_byte leaves (slice_index reps c) F)) (sym g)
                  (subst (λ x. IsTarget new t (positions_with_byte leaves (slice_index reps x) F)) (sym s.1) is),
            )
      ];
}

-- the sets of the table and one more, as lists
pub lists_with : List Positions → List ℕ → List (List ℕ)
lists_with [] set = set ∷ []
lists_with (x ∷ xs) set = x.items ∷ lists_with xs set

pub lists_length : (xs : List Positions) (set : List ℕ) → length (lists_with xs set) ≡ length xs + 1
unfolding lists_with
lists_length [] set = refl
lists_length (x ∷ xs) set = let e = lists_length xs set in omega arith

pub lists_at : (xs : List Positions) (set : List ℕ) (i : ℕ) → i < length xs → get_or (lists_with xs set) i [] ≡ set_of xs i
unfolding lists_with
lists_at [] set i h = absurd (omega arith)
lists_at (x ∷ xs) set zero h = refl
lists_at (x ∷ xs) set (suc i) h = lists_at xs set i (omega arith)

pub lists_last : (xs : List Positions) (set : List ℕ) → get_or (lists_with xs set) (length xs) [] ≡ set
unfolding lists_with
lists_last [] set = refl
lists_last (x ∷ xs) set = lists_last xs set

pub more_sets : (spec : PlainSpec) (rules : List NumberedRule) (xs : List Positions) (set : List ℕ) (limit : ℕ) → AreReachedSets spec rules xs → IsReachedSet spec rules set →
    length xs ≡ limit → ((i : ℕ) → i < length xs → set_of xs i ≢ set) → HasMoreSets spec rules limit
more_sets spec rules xs set limit are is long fresh = record {
  sets = lists_with xs set;
  count = let l = lists_length xs set in omega arith;
  reached = λ i h. let l = lists_length xs set in elim (cases_lt i (length xs)) [
    | inl k ↦ subst (λ s. IsReachedSet spec rules s) (sym (lists_at xs set i k)) (are.reached i k)
    | inr k ↦ let e : i ≡ length xs = omega arith in
        subst (λ s. IsReachedSet spec rules s) (sym (ap (λ x. get_or (lists_with xs set) x []) e ∙ lists_last xs set)) is
  ];
  distinct = λ i j lt h. let l = lists_length xs set in elim (cases_lt j (length xs)) [
    | inl k ↦ let hi : i < length xs = omega arith in λ e. are.distinct i j lt k (sym (lists_at xs set i hi) ∙ e ∙ lists_at xs set j k)
    | inr k ↦ let n : j ≡ length xs = omega arith in let hi : i < length xs = omega arith in
        λ e. fresh i hi (sym (lists_at xs set i hi) ∙ e ∙ ap (λ x. get_or (lists_with xs set) x []) n ∙ lists_last xs set)
  ];
}

-- after a target was added
pub reached_added : (spec : PlainSpec) (rules : List NumberedRule) (old new : List Positions) (set : List ℕ) → AreReachedSets spec rules old → IsExtendedBy old new set →
    (set ≢ [] → IsReachedSet spec rules set) → (length new ≡ length old) ⊎ ((set ≢ []) × ((i : ℕ) → i < length old → set_of old i ≢ set)) → AreReachedSets spec rules new
reached_added spec rules old new set are on is fresh = elim fresh [
  | inl same ↦ record {
    reached = λ i h. let l : i < length old = omega arith in subst (λ s. IsReachedSet spec rules s) (sym (on.kept i l)) (are.reached i l);
    distinct = λ i j lt h.
        let lj : j < length old = omega arith in
        let li : i < length old = omega arith in
        λ e. are.distinct i j lt lj (sym (on.kept i li) ∙ e ∙ on.kept j lj);
  }
  | inr new_one ↦ reached_after spec rules old new set are on (is new_one.0) (inr new_one.1)
]

pub row_full : (spec : PlainSpec) (rules : List NumberedRule) (leaves : List PlainLeaf) (reps : List ℕ) (sets : List Positions) (targets : List (Option ℕ)) (state class : ℕ) →
    class ≡ length reps → HaveSteps spec rules leaves reps sets targets (state * length reps + class) → HaveSteps spec rules leaves reps sets targets ((state + 1) * length reps)
row_full spec rules leaves reps sets targets state class e have =
    let r : (state + 1) * length reps ≡ state * length reps + length reps = suc_row state (length reps) in
    let n : state * length reps + class ≡ (state + 1) * length reps = omega arith in
    subst (λ n. HaveSteps spec rules leaves reps sets targets n) n have
  where
    suc_row : (a b : ℕ) → (a + 1) * b ≡ a * b + b
    suc_row a b = grind arith

-- the same, for lists that are known by equations
pub row_of : (spec : PlainSpec) (tree_of : Regex → Unfolded) (L M : List PlainLeaf) (R Q F G : List ℕ) (sets : List Positions) (targets : List (Option ℕ)) (n : ℕ) →
    M ≡ L → Q ≡ R → G ≡ F → AreLeavesOf (numbered tree_of 0 spec.rules) L → IsSource spec (numbered tree_of 0 spec.rules) sets n F →
    IsExplored spec tree_of L R sets targets n → IsRowOf spec tree_of M Q n G sets targets
row_of spec tree_of L M R Q F G sets targets n l r f leaves source explored =
    subst (λ x. IsRowOf spec tree_of x Q n G sets targets) (sym l)
    (subst (λ x. IsRowOf spec tree_of L x n G sets targets) (sym r)
    (subst (λ x. IsRowOf spec tree_of L R n x sets targets) (sym f)
    (record { leaves_of = leaves; source = source; reached = explored.reached; steps = explored.steps })))

pub explored_of : (spec : PlainSpec) (tree_of : Regex → Unfolded) (L M : List PlainLeaf) (R Q : List ℕ) (sets : List Positions) (targets : List (Option ℕ)) (n : ℕ) →
    M ≡ L → Q ≡ R → AreReachedSets spec (numbered tree_of 0 spec.rules) sets →
    HaveSteps spec (numbered tree_of 0 spec.rules) M Q sets targets ((n + 1) * length Q) → IsExplored spec tree_of L R sets targets (n + 1)
explored_of spec tree_of L M R Q sets targets n l r reached steps =
    subst (λ x. IsExplored spec tree_of x R sets targets (n + 1)) l
    (subst (λ x. IsExplored spec tree_of M x sets targets (n + 1)) r (record { reached = reached; steps = steps }))

rule_at : (tree_of : Regex → Unfolded) (base : ℕ) (plain : List PlainRule) (i : ℕ) (r : NumberedRule) → slice_get (numbered tree_of base plain) i ≡ Some r → slice_get plain i ≡ Some r.rule
rule_at tree_of base [] i r h = absurd (cc)
rule_at tree_of base (rule ∷ plain) zero r h = ap of (h)
  where
    of : Option NumberedRule → Option PlainRule
    of None = None
    of (Some r) = Some r.rule
rule_at tree_of base (rule ∷ plain) (suc i) r h =
    rule_at tree_of (base + (position_count (tree_of rule.reading.tree) + newline_count rule.reading.line_end)) plain i r h

pub numbered_rules : (spec : PlainSpec) (tree_of : Regex → Unfolded) → AreNumbered spec (numbered tree_of 0 spec.rules)
numbered_rules spec tree_of = record {
  rule_of = λ i r h. rule_at tree_of 0 spec.rules i r h;
  apart = λ i j r s l hi hj. ranges_apart tree_of 0 spec.rules i j r s l hi hj;
}

-- before anything is reached
pub nothing_explored : (spec : PlainSpec) (tree_of : Regex → Unfolded) (L : List PlainLeaf) (R : List ℕ) (sets : List Positions) (targets : List (Option ℕ)) →
    sets ≡ [] → targets ≡ [] → IsExplored spec tree_of L R sets targets 0
nothing_explored spec tree_of L R sets targets s t =
    subst (λ x. IsExplored spec tree_of L R x targets 0) (sym s) (subst (λ x. IsExplored spec tree_of L R [] x 0) (sym t) (record {
      reached = record { reached = λ i h. absurd (omega arith); distinct = λ i j l h. absurd (omega arith) };
      steps = record { long = (let z : 0 ≡ 0 * length R = omega arith in z); each = λ i c h l. absurd (omega arith) };
    }))

pub explored_at : (spec : PlainSpec) (tree_of : Regex → Unfolded) (L : List PlainLeaf) (R : List ℕ) (sets : List Positions) (targets : List (Option ℕ)) (m n : ℕ) →
    m ≡ n → IsExplored spec tree_of L R sets targets m → IsExplored spec tree_of L R sets targets n
explored_at spec tree_of L R sets targets m n e x = subst (λ k. IsExplored spec tree_of L R sets targets k) e x
