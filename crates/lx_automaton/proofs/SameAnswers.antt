-- Machines that step and accept alike answer alike.
use Rattle.std.proofs.Common.{◌≡◌, ℕ, ◌<◌, Bool, true, false, Option, Some, None, List, [], ◌∷◌, length, slice_index, slice_index_or, All, refl, ◌∙◌, ap}
use Rattle.std.proofs.lemmas.List.Elements.{All-head, All-tail}
use Rattle.lx_automaton.specs.Automata.{Machine, IsMachine, HasSameSteps, state_count, start_of, target_of, state_after, accepted_at, answer_from, answer}

-- the answer after a word, from the target of a step
abbrev pub answer_at : Machine → Option ℕ → List ℕ → Option ℕ
answer_at q s v = accepted_at q (state_after q s v)

pub same_count : (q r : Machine) → HasSameSteps q r → state_count r ≡ state_count q
same_count q r same_steps = ap (λ (xs : List (Option ℕ)). length xs) same_steps.accepted

module _ (q r : Machine) (is : IsMachine q) (same_steps : HasSameSteps q r) where
  pub same_answer : (v : List ℕ) (s : ℕ) → s < state_count q → All (λ b. b < 256) v → answer_from r s v ≡ answer_from q s v
  same_answer [] s hs all = ap (λ (xs : List (Option ℕ)). slice_index_or xs s None) same_steps.accepted
  same_answer (b ∷ v) s hs all =
      let hb = All-head (λ b. b < 256) b v all in
      ap (λ o. answer_at r o v) (same_steps.steps s b hs hb)
      ∙ onwards v (λ t h. same_answer v t h (All-tail (λ b. b < 256) b v all)) (target_of q s b) (λ t e. is.closed s (slice_index q.classes b) t hs (is.below b hb) e)
    where
      onwards : (v : List ℕ) → ((t : ℕ) → t < state_count q → answer_from r t v ≡ answer_from q t v) → (o : Option ℕ) → ((t : ℕ) → o ≡ Some t → t < state_count q) →
          answer_at r o v ≡ answer_at q o v
      onwards v same None f = refl
      onwards v same (Some t) f = same t (f t refl)

  -- the answers from the starts
  pub same_answers : (c : ℕ) (begin : Bool) (v : List ℕ) → c < length q.starts → All (λ b. b < 256) v → answer r c begin v ≡ answer q c begin v
  same_answers c begin v h all = ap (λ s. answer_from r s v) (same_start begin) ∙ same_answer v (start_of q c begin) (is.starts c begin h) all
    where
      same_start : (begin : Bool) → start_of r c begin ≡ start_of q c begin
      same_start true = ap (λ (xs : List (ℕ × ℕ)). (slice_index_or xs c (0, 0)).1) same_steps.starts
      same_start false = ap (λ (xs : List (ℕ × ℕ)). (slice_index_or xs c (0, 0)).0) same_steps.starts
