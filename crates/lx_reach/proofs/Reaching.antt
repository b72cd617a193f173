-- Texts that lead to states.
use Rattle.std.proofs.Common.{◌≡◌, ◌≢◌, ℕ, ◌+◌, ◌-◌, ◌<◌, ◌≤◌, Bool, true, false, List, [], ◌∷◌, ◌++◌, Option, Some, None, All, length, slice_index, ◌⊎◌, refl, sym, ◌∙◌, ap, subst, arith, inl, inr}
use Rattle.std.proofs.lemmas.List.{length_push}
use Rattle.std.proofs.lemmas.List.Elements.{All-nil, All-cons, All-head, All-push, All-tail}
use Rattle.std.proofs.lemmas.Bool.{cases_lt}
use Rattle.lx_automaton.specs.Automata.{Machine, start_of, target_of, state_after}
use Rattle.lx_reach.specs.Reached.{AreMet, IsStart, IsTarget, IsReached, AreTargets}
use Rattle.lx_reach.proofs.Meeting.{known}

pub no_bytes : (m : Machine) (s : Option ℕ) → state_after m s [] ≡ s
no_bytes m None = refl
no_bytes m (Some s) = refl

pub both : (m : Machine) (s : Option ℕ) (u v : List ℕ) → state_after m s (u ++ v) ≡ state_after m (state_after m s u) v
both m None u v = refl
both m (Some s) [] v = refl
both m (Some s) (b ∷ u) v = both m (target_of m s b) u v

-- a text that isn't empty has a last byte
last_of : (b : ℕ) (text : List ℕ) → (u : List ℕ) × (c : ℕ) × (b ∷ text ≡ u ++ c ∷ [])
last_of b [] = ([], b, refl)
last_of b (d ∷ text) = let r = last_of d text in (b ∷ r.0, r.1, ap (λ x. b ∷ x) r.2)

-- ---- one byte more
pub extend : (m : Machine) (first end n s t : ℕ) → IsReached m first end n s → IsTarget m s t → IsReached m first end (n + 1) t
extend m first end n s t r step = record {
  condition = r.condition;
  begin = r.begin;
  text = r.text ++ step.byte ∷ [];
  from = r.from;
  before = r.before;
  bytes = All-push (λ b. b < 256) r.text step.byte r.bytes step.below;
  long = (let l = length_push r.text step.byte in let k = r.long in omega arith);
  leads = both m (Some (start_of m r.condition r.begin)) r.text (step.byte ∷ [])
      ∙ ap (λ o. state_after m o (step.byte ∷ [])) r.leads ∙ no_bytes m (target_of m s step.byte) ∙ step.leads;
}

pub less : (m : Machine) (first end k n t : ℕ) → k ≤ n → IsReached m first end n t → IsReached m first end k t
less m first end k n t h r = record { condition = r.condition; begin = r.begin; text = r.text; from = r.from; before = r.before; bytes = r.bytes; long = (let l = r.long in omega arith); leads = r.leads }

pub begun : (m : Machine) (first end s : ℕ) → IsStart m first end s → IsReached m first end 0 s
begun m first end s start = record {
  condition = start.condition;
  begin = start.begin;
  text = [];
  from = start.from;
  before = start.before;
  bytes = All-nil (λ b. b < 256);
  long = omega arith;
  leads = ap (λ (x : ℕ). Some x) (sym start.is);
}

-- ---- the lists of the search
pub starts_more : (m : Machine) (w0 w1 w2 : List ℕ) (first end n a b : ℕ) → first ≤ n → n < end → a ≡ start_of m n false → b ≡ start_of m n true →
    ((c : ℕ) (begin : Bool) → first ≤ c → c < n → slice_index w0 (start_of m c begin) ≢ 0) → ((s : ℕ) → slice_index w0 s ≢ 0 → IsStart m first end s) →
    slice_index w1 a ≢ 0 → ((s : ℕ) → slice_index w0 s ≢ 0 → slice_index w1 s ≢ 0) → ((s : ℕ) → slice_index w1 s ≢ 0 → (slice_index w0 s ≢ 0) ⊎ (s ≡ a)) →
    slice_index w2 b ≢ 0 → ((s : ℕ) → slice_index w1 s ≢ 0 → slice_index w2 s ≢ 0) → ((s : ℕ) → slice_index w2 s ≢ 0 → (slice_index w1 s ≢ 0) ⊎ (s ≡ b)) →
    ((c : ℕ) (begin : Bool) → first ≤ c → c < n + 1 → slice_index w2 (start_of m c begin) ≢ 0) × ((s : ℕ) → slice_index w2 s ≢ 0 → IsStart m first end s)
starts_more m w0 w1 w2 first end n a b from before is_a is_b there only a_there a_kept a_only b_there b_kept b_only = (
  (λ c begin f h. elim (cases_lt c n) [
    | inl l ↦ b_kept (start_of m c begin) (a_kept (start_of m c begin) (there c begin f l))
    | inr l ↦ let e : c ≡ n = omega arith in subst (λ x. slice_index w2 (start_of m x begin) ≢ 0) (sym e) (last begin)
  ]),
  (λ s h. elim (b_only s h) [
    | inl k ↦ elim (a_only s k) [
      | inl j ↦ only s j
      | inr e ↦ record { condition = n; begin = false; from = from; before = before; is = e ∙ is_a }
    ]
    | inr e ↦ record { condition = n; begin = true; from = from; before = before; is = e ∙ is_b }
  ]),
)
  where
    last : (begin : Bool) → slice_index w2 (start_of m n begin) ≢ 0
    last false = subst (λ x. slice_index w2 x ≢ 0) is_a (b_kept a a_there)
    last true = subst (λ x. slice_index w2 x ≢ 0) is_b b_there

-- a state of the list has a number
pub listed : (states words : List ℕ) (i : ℕ) → AreMet states words → i < length states → slice_index words (slice_index states i) ≢ 0
listed states words i met h e = let p = met.placed i h in absurd (omega arith)

-- one that has a number is in the list
pub place_of : (states words : List ℕ) (s : ℕ) → AreMet states words → slice_index words s ≢ 0 → (i : ℕ) × (i < length states) × (slice_index states i ≡ s)
place_of states words s met h = (
  slice_index words s - 1,
  (let w = met.within s (known words s h) h in omega arith),
  met.found s (known words s h) h,
)

pub closed_more : (m : Machine) (first end : ℕ) (w0 w1 states0 states1 : List ℕ) (place state : ℕ) → AreMet states0 w0 → place < length states0 → state ≡ slice_index states0 place →
    ((s : ℕ) → slice_index w0 s ≢ 0 → IsReached m first end 0 s) → ((i t : ℕ) → i < place → IsTarget m (slice_index states0 i) t → slice_index w0 t ≢ 0) →
    ((t : ℕ) → IsTarget m state t → slice_index w1 t ≢ 0) → ((s : ℕ) → slice_index w0 s ≢ 0 → slice_index w1 s ≢ 0) →
    ((t : ℕ) → slice_index w1 t ≢ 0 → (slice_index w0 t ≢ 0) ⊎ IsTarget m state t) → ((i : ℕ) → i < length states0 → slice_index states1 i ≡ slice_index states0 i) →
    ((s : ℕ) → slice_index w1 s ≢ 0 → IsReached m first end 0 s) × ((i t : ℕ) → i < place + 1 → IsTarget m (slice_index states1 i) t → slice_index w1 t ≢ 0)
closed_more m first end w0 w1 states0 states1 place state met inside is reached closed there kept only front = (
  (λ s h. elim (only s h) [
    | inl k ↦ reached s k
    | inr t ↦ less m first end 0 1 s (omega arith) (extend m first end 0 state s (reached state (subst (λ x. slice_index w0 x ≢ 0) (sym is) (listed states0 w0 place met inside))) t)
  ]),
  (λ i t h step. elim (cases_lt i place) [
    | inl l ↦ kept t (closed i t l (subst (λ x. IsTarget m x t) (front i (omega arith)) step))
    | inr l ↦
        let e : i ≡ place = omega arith in
        there t (subst (λ x. IsTarget m x t) (ap (λ k. slice_index states1 k) e ∙ front place inside ∙ sym is) step)
  ]),
)

-- if all targets of the listed states are listed, all reached states are
pub reach_closed : (m : Machine) (first end : ℕ) (states words : List ℕ) (place : ℕ) → AreMet states words → length states ≤ place →
    ((s : ℕ) → IsStart m first end s → slice_index words s ≢ 0) → ((i t : ℕ) → i < place → IsTarget m (slice_index states i) t → slice_index words t ≢ 0) →
    (t : ℕ) → IsReached m first end 0 t → slice_index words t ≢ 0
reach_closed m first end states words place met all starts closed t r =
    run r.text (start_of m r.condition r.begin) (starts _ (record { condition = r.condition; begin = r.begin; from = r.from; before = r.before; is = refl })) r.bytes r.leads
  where
    step : (s u : ℕ) → slice_index words s ≢ 0 → IsTarget m s u → slice_index words u ≢ 0
    step s u h target =
        let p = place_of states words s met h in
        closed p.0 u (let l = p.1 in omega arith) (subst (λ x. IsTarget m x u) (sym p.2) target)

    run : (text : List ℕ) (s : ℕ) → slice_index words s ≢ 0 → All (λ b. b < 256) text → state_after m (Some s) text ≡ Some t → slice_index words t ≢ 0
    run [] s h bytes e = let same : s ≡ t = cc in subst (λ x. slice_index words x ≢ 0) same h
    run (b ∷ text) s h bytes e = on (λ u k f. run text u k (All-tail (λ x. x < 256) b text bytes) f) (target_of m s b) refl e
      where
        on : ((u : ℕ) → slice_index words u ≢ 0 → state_after m (Some u) text ≡ Some t → slice_index words t ≢ 0) → (o : Option ℕ) → target_of m s b ≡ o → state_after m o text ≡ Some t → slice_index words t ≢ 0
        on more None is f = absurd (let g : None ≡ Some t = f in cc)
        on more (Some u) is f = more u (step s u h (record { byte = b; below = All-head (λ x. x < 256) b text bytes; leads = is })) f

pub targets_more : (m : Machine) (from w0 w1 states : List ℕ) (place state : ℕ) → AreMet states from → place < length states → state ≡ slice_index states place →
    ((t : ℕ) → slice_index w0 t ≢ 0 → (s : ℕ) × (slice_index from s ≢ 0) × IsTarget m s t) → ((i t : ℕ) → i < place → IsTarget m (slice_index states i) t → slice_index w0 t ≢ 0) →
    ((t : ℕ) → IsTarget m state t → slice_index w1 t ≢ 0) → ((s : ℕ) → slice_index w0 s ≢ 0 → slice_index w1 s ≢ 0) →
    ((t : ℕ) → slice_index w1 t ≢ 0 → (slice_index w0 t ≢ 0) ⊎ IsTarget m state t) →
    ((t : ℕ) → slice_index w1 t ≢ 0 → (s : ℕ) × (slice_index from s ≢ 0) × IsTarget m s t) × ((i t : ℕ) → i < place + 1 → IsTarget m (slice_index states i) t → slice_index w1 t ≢ 0)
targets_more m from w0 w1 states place state met inside is old closed there kept only = (
  (λ t h. elim (only t h) [
    | inl k ↦ old t k
    | inr step ↦ (state, subst (λ x. slice_index from x ≢ 0) (sym is) (listed states from place met inside), step)
  ]),
  (λ i t h step. elim (cases_lt i place) [
    | inl l ↦ kept t (closed i t l step)
    | inr l ↦ let e : i ≡ place = omega arith in there t (subst (λ x. IsTarget m x t) (ap (λ k. slice_index states k) e ∙ sym is) step)
  ]),
)

pub are_targets : (m : Machine) (from to states : List ℕ) (place : ℕ) → AreMet states from → length states ≤ place →
    ((t : ℕ) → slice_index to t ≢ 0 → (s : ℕ) × (slice_index from s ≢ 0) × IsTarget m s t) → ((i t : ℕ) → i < place → IsTarget m (slice_index states i) t → slice_index to t ≢ 0) →
    AreTargets m from to
are_targets m from to states place met all old closed = record {
  only = old;
  all = λ s t h step. let p = place_of states from s met h in closed p.0 t (let l = p.1 in omega arith) (subst (λ x. IsTarget m x t) (sym p.2) step);
}

-- ---- the targets of the states that texts of n bytes lead to
abbrev pub Marks : Machine → ℕ → ℕ → ℕ → List ℕ → Type 0
Marks m first end n words = ((s : ℕ) → slice_index words s ≢ 0 → IsReached m first end n s) × ((s : ℕ) → IsReached m first end n s → slice_index words s ≢ 0)

pub marks_targets : (m : Machine) (first end n : ℕ) (from to : List ℕ) → Marks m first end n from → AreTargets m from to → Marks m first end (n + 1) to
marks_targets m first end n from to marks are = (
  (λ t h. let p = are.only t h in extend m first end n p.0 t (marks.0 p.0 p.1) p.2),
  (λ t r. split t r r.text refl),
)
  where
    split : (t : ℕ) (r : IsReached m first end (n + 1) t) (text : List ℕ) → text ≡ r.text → slice_index to t ≢ 0
    split t r [] e = let l : length r.text ≡ 0 = ap (λ x. length x) (sym e) in let k = r.long in absurd (omega arith)
    split t r (b ∷ rest) e =
        let p = last_of b rest in
        let is : r.text ≡ p.0 ++ p.1 ∷ [] = sym e ∙ p.2 in
        let bytes : All (λ x. x < 256) (p.0 ++ p.1 ∷ []) = subst (λ x. All (λ y. y < 256) x) is r.bytes in
        let leads : state_after m (state_after m (Some (start_of m r.condition r.begin)) p.0) (p.1 ∷ []) ≡ Some t =
        sym (both m (Some (start_of m r.condition r.begin)) p.0 (p.1 ∷ [])) ∙ ap (λ x. state_after m (Some (start_of m r.condition r.begin)) x) (sym is) ∙ r.leads in
        on p.0 p.1 (ap (λ x. length x) is ∙ length_push p.0 p.1) (front p.0 p.1 bytes) (back p.0 p.1 bytes) (state_after m (Some (start_of m r.condition r.begin)) p.0) refl leads
      where
        front : (u : List ℕ) (c : ℕ) → All (λ x. x < 256) (u ++ c ∷ []) → All (λ x. x < 256) u
        front [] c all = All-nil (λ x. x < 256)
        front (d ∷ u) c all = All-cons (λ x. x < 256) d u (All-head (λ x. x < 256) d (u ++ c ∷ []) all) (front u c (All-tail (λ x. x < 256) d (u ++ c ∷ []) all))

        back : (u : List ℕ) (c : ℕ) → All (λ x. x < 256) (u ++ c ∷ []) → c < 256
        back [] c all = All-head (λ x. x < 256) c [] all
        back (d ∷ u) c all = back u c (All-tail (λ x. x < 256) d (u ++ c ∷ []) all)

        on : (u : List ℕ) (c : ℕ) → length r.text ≡ length u + 1 → All (λ x. x < 256) u → c < 256 → (o : Option ℕ) → state_after m (Some (start_of m r.condition r.begin)) u ≡ o →
            state_after m o (c ∷ []) ≡ Some t → slice_index to t ≢ 0
        on u c long all below None is f = absurd (let g : None ≡ Some t = f in cc)
        on u c long all below (Some s) is f =
            are.all s t
            (marks.1 s (record { condition = r.condition; begin = r.begin; text = u; from = r.from; before = r.before; bytes = all; long = (let k = r.long in omega arith); leads = is }))
            (record { byte = c; below = below; leads = sym (no_bytes m (target_of m s c)) ∙ f })
