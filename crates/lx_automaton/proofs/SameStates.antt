-- A text leads to the same state in a machine with equal steps. So a text leads to each of its states if one does in the other machine.
use Rattle.std.proofs.Common.{◌≡◌, ℕ, ◌<◌, Bool, true, false, Option, Some, None, List, [], ◌∷◌, length, slice_index, slice_index_or, All, refl, ◌∙◌, ap, subst, arith}
use Rattle.std.proofs.lemmas.List.Elements.{All-head, All-tail}
use Rattle.lx_automaton.specs.Automata.{Machine, IsMachine, HasSameSteps, state_count, start_of, target_of, state_after}
use Rattle.lx_automaton.specs.Leading.{AreAllLedTo}
use Rattle.lx_automaton.proofs.SameAnswers.{same_count}

module _ (q r : Machine) (is : IsMachine q) (same_steps : HasSameSteps q r) where
  same_state : (s : ℕ) (w : List ℕ) → s < state_count q → All (λ b. b < 256) w → state_after r (Some s) w ≡ state_after q (Some s) w
  same_state s [] hs all = refl
  same_state s (b ∷ w) hs all =
      let hb = All-head (λ b. b < 256) b w all in
      ap (λ (o : Option ℕ). state_after r o w) (same_steps.steps s b hs hb)
      ∙ onwards w (λ t h. same_state t w h (All-tail (λ b. b < 256) b w all)) (target_of q s b) (λ t e. is.closed s (slice_index q.classes b) t hs (is.below b hb) e)
    where
      onwards : (v : List ℕ) → ((t : ℕ) → t < state_count q → state_after r (Some t) v ≡ state_after q (Some t) v) → (o : Option ℕ) → ((t : ℕ) → o ≡ Some t → t < state_count q) →
          state_after r o v ≡ state_after q o v
      onwards v same None f = refl
      onwards v same (Some t) f = same t (f t refl)

  same_start : (c : ℕ) (begin : Bool) → start_of r c begin ≡ start_of q c begin
  same_start c true = ap (λ (xs : List (ℕ × ℕ)). (slice_index_or xs c (0, 0)).1) same_steps.starts
  same_start c false = ap (λ (xs : List (ℕ × ℕ)). (slice_index_or xs c (0, 0)).0) same_steps.starts

  pub same_steps_lead : AreAllLedTo q → AreAllLedTo r
  same_steps_lead all = record {
    each = λ s h.
        let fewer : s < state_count q = subst (λ (n : ℕ). s < n) (same_count q r same_steps) h in
        let led = all.each s fewer in
        record {
          condition = led.condition;
          begin = led.begin;
          text = led.text;
          there = let e = ap (λ (xs : List (ℕ × ℕ)). length xs) same_steps.starts in let l = led.there in omega arith;
          bytes = led.bytes;
          leads =
              ap (λ (n : ℕ). state_after r (Some n) led.text) (same_start led.condition led.begin)
              ∙ same_state (start_of q led.condition led.begin) led.text (is.starts led.condition led.begin led.there) led.bytes ∙ led.leads;
        };
  }
