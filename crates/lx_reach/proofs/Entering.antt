-- Conditions that are entered.
use Rattle.std.proofs.Common.{◌≡◌, ◌≢◌, ℕ, zero, suc, ◌+◌, ◌<◌, ◌≤◌, Bool, true, false, not, nat_eq, nat_lt, List, [], ◌∷◌, ◌++◌, length, take, slice_index, slice_index_or, ◌⊎◌, refl, sym, ◌∙◌, ap, subst, arith, inl, inr, ltb-true}
use Rattle.std.specs.List.{list_all}
use Rattle.std.proofs.lemmas.Bool.{and_parts, cases_lt, true≢false}
use Rattle.std.proofs.lemmas.Bool.Decides.{eqb_tells}
use Rattle.lx_rules.specs.declared.rule.Step.{Step}
use Rattle.lx_rules.specs.declared.rule.Step.TheVariants.{Echo, Begin, Return}
use Rattle.lx_rules.specs.Invariant.{are_steps}
use Rattle.lx_tables.specs.Model.{Table, IsTable, rule_at}
use Rattle.lx_scan.specs.Steps.{condition_after}
use Rattle.lx_reach.specs.Chosen.{AreFlagsOf, IsChosenIn}
use Rattle.lx_reach.specs.Entered.{IsBehind, IsEntered, Initial, Begun}
use Rattle.lx_reach.specs.Reached.{AreMet}
use Rattle.lx_reach.proofs.Reaching.{listed, place_of}

-- a condition that steps lead to is one that exists
steps_known : (steps : List Step) (condition conditions kinds : ℕ) → condition < conditions → are_steps conditions kinds steps ≡ true → condition_after steps condition < conditions
steps_known [] condition conditions kinds h is = h
steps_known (Echo ∷ steps) condition conditions kinds h is = steps_known steps condition conditions kinds h is
steps_known (Begin next ∷ steps) condition conditions kinds h is =
    let both = and_parts (nat_lt next conditions) (are_steps conditions kinds steps) is in
    steps_known steps next conditions kinds (ltb-true next conditions both.0) both.1
steps_known (Return kind ∷ []) condition conditions kinds h is = h
steps_known (Return kind ∷ step ∷ steps) condition conditions kinds h is = absurd (true≢false (sym is))

all_or : {X : Type 0} (test : X → Bool) (xs : List X) (i : ℕ) (d : X) → list_all test xs ≡ true → test d ≡ true → test (slice_index_or xs i d) ≡ true
all_or test [] i d all default = default
all_or test (x ∷ xs) zero d all default = (and_parts (test x) (list_all test xs) all).0
all_or test (x ∷ xs) (suc i) d all default = all_or test xs i d ((and_parts (test x) (list_all test xs) all).1) default

pub behind_known : (table : Table) (rule condition : ℕ) → IsTable table → condition < length table.machine.starts → condition_after (rule_at table rule).steps condition < length table.machine.starts
behind_known table rule condition is h =
    steps_known (rule_at table rule).steps condition (length table.machine.starts) (length table.kinds) h
    (all_or (λ r. are_steps (length table.machine.starts) (length table.kinds) r.steps) table.rules rule _ is.steps refl)

-- the conditions after the rules of a met condition are met, and the consequences of that
pub entered_more : (table : Table) (w0 w1 met0 met1 : List ℕ) (flags : List Bool) (place condition : ℕ) → AreMet met0 w0 → place < length met0 → condition ≡ slice_index met0 place →
    AreFlagsOf (length table.rules) (IsChosenIn table condition) flags →
    ((c : ℕ) → slice_index w0 c ≢ 0 → IsEntered table c) →
    ((i r : ℕ) → i < place → IsChosenIn table (slice_index met0 i) r → slice_index w0 (condition_after (rule_at table r).steps (slice_index met0 i)) ≢ 0) →
    ((c : ℕ) → IsBehind table condition flags c → slice_index w1 c ≢ 0) → ((c : ℕ) → slice_index w0 c ≢ 0 → slice_index w1 c ≢ 0) →
    ((c : ℕ) → slice_index w1 c ≢ 0 → (slice_index w0 c ≢ 0) ⊎ IsBehind table condition flags c) → ((i : ℕ) → i < length met0 → slice_index met1 i ≡ slice_index met0 i) →
    ((c : ℕ) → slice_index w1 c ≢ 0 → IsEntered table c) ×
    ((i r : ℕ) → i < place + 1 → IsChosenIn table (slice_index met1 i) r → slice_index w1 (condition_after (rule_at table r).steps (slice_index met1 i)) ≢ 0)
entered_more table w0 w1 met0 met1 flags place condition met inside is are entered closed there kept only front = (
  (λ c h. elim (only c h) [
    | inl k ↦ entered c k
    | inr b ↦
        let now : IsEntered table condition = entered condition (subst (λ x. slice_index w0 x ≢ 0) (sym is) (listed met0 w0 place met inside)) in
        subst (λ x. IsEntered table x) (sym b.is) (Begun condition b.rule now (are.holds b.rule b.marked))
  ]),
  (λ i r h chosen. elim (cases_lt i place) [
    | inl l ↦
        let same : slice_index met1 i ≡ slice_index met0 i = front i (omega arith) in
        subst (λ x. slice_index w1 (condition_after (rule_at table r).steps x) ≢ 0) (sym same) (kept _ (closed i r l (subst (λ x. IsChosenIn table x r) same chosen)))
    | inr l ↦
        let e : i ≡ place = omega arith in
        let same : slice_index met1 i ≡ condition = ap (λ k. slice_index met1 k) e ∙ front place inside ∙ sym is in
        let here : IsChosenIn table condition r = subst (λ x. IsChosenIn table x r) same chosen in
        subst (λ x. slice_index w1 (condition_after (rule_at table r).steps x) ≢ 0) (sym same) (there _ (record { rule = r; marked = marked r here (slice_index_or flags r false) refl; is = refl }))
  ]),
)
  where
    marked : (r : ℕ) → IsChosenIn table condition r → (b : Bool) → slice_index_or flags r false ≡ b → slice_index_or flags r false ≡ true
    marked r chosen true e = e
    marked r chosen false e = absurd (are.fails r e chosen)

pub all_entered : (table : Table) (met places : List ℕ) (place : ℕ) → AreMet met places → length met ≤ place → slice_index places 0 ≢ 0 →
    ((i r : ℕ) → i < place → IsChosenIn table (slice_index met i) r → slice_index places (condition_after (rule_at table r).steps (slice_index met i)) ≢ 0) →
    (c : ℕ) → IsEntered table c → slice_index places c ≢ 0
all_entered table met places place are all start closed c Initial = start
all_entered table met places place are all start closed c (Begun condition rule entered chosen) =
    let p = place_of met places condition are (all_entered table met places place are all start closed condition entered) in
    subst (λ x. slice_index places (condition_after (rule_at table rule).steps x) ≢ 0) p.2
    (closed p.0 rule (let l = p.1 in omega arith) (subst (λ x. IsChosenIn table x rule) (sym p.2) chosen))

-- ---- for each number, true if it isn't 0
abbrev pub mark : ℕ → Bool
mark w = not (nat_eq w 0)

abbrev pub marks : List ℕ → List Bool
marks [] = []
marks (w ∷ ws) = mark w ∷ marks ws

pub marks_more : (ws : List ℕ) (i : ℕ) → i < length ws → marks (take (suc i) ws) ≡ marks (take i ws) ++ mark (slice_index ws i) ∷ []
marks_more [] i h = absurd (omega arith)
marks_more (w ∷ ws) zero h = refl
marks_more (w ∷ ws) (suc i) h = ap (λ xs. mark w ∷ xs) (marks_more ws i (omega arith))

pub marks_long : (ws : List ℕ) → length (marks ws) ≡ length ws
marks_long [] = refl
marks_long (w ∷ ws) = ap suc (marks_long ws)

marked : (w : ℕ) → mark w ≡ true → w ≢ 0
marked w h e = elim (eqb_tells w 0) [
  | inl t ↦ true≢false (sym h ∙ ap not t.0)
  | inr t ↦ t.1 e
]

unmarked : (w : ℕ) → mark w ≡ false → w ≡ 0
unmarked w h = elim (eqb_tells w 0) [
  | inl t ↦ t.1
  | inr t ↦ absurd (true≢false (sym (ap not t.0) ∙ h))
]

pub marks_hold : (ws : List ℕ) (n : ℕ) → slice_index_or (marks ws) n false ≡ true → slice_index ws n ≢ 0
marks_hold [] n h e = true≢false (sym h)
marks_hold (w ∷ ws) zero h e = marked w h e
marks_hold (w ∷ ws) (suc n) h e = marks_hold ws n h e

pub marks_fail : (ws : List ℕ) (n : ℕ) → slice_index_or (marks ws) n false ≡ false → slice_index ws n ≡ 0
marks_fail [] n h = refl
marks_fail (w ∷ ws) zero h = unmarked w h
marks_fail (w ∷ ws) (suc n) h = marks_fail ws n h
