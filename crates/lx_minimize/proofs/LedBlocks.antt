-- The text that leads to a state leads to its block's state; a start in block 0 is a state of its own.
use Rattle.std.proofs.Common.{◌≡◌, ◌≢◌, ℕ, ◌+◌, ◌-◌, ◌<◌, Bool, true, false, Some, None, List, [], length, map, slice_index, refl, sym, ◌∙◌, ap, arith, inl, inr}
use Rattle.std.proofs.lemmas.List.Elements.{All-nil}
use Rattle.lx_automaton.specs.Automata.{Machine, IsMachine, start_of, state_after}
use Rattle.lx_automaton.specs.EncodedOptions.{decoded_option}
use Rattle.lx_automaton.specs.Leading.{IsLedTo}
use Rattle.lx_minimize.specs.Completion.{total, after, IsCompletion}
use Rattle.lx_minimize.specs.Partitions.{block, block_count}
use Rattle.lx_minimize.specs.Quotients.{number_of, HasDeadStart}
use Rattle.lx_minimize.specs.Simulations.{Simulates}
use Rattle.lx_minimize.specs.declared.complete.Complete.{Complete}
use Rattle.lx_minimize.specs.declared.partition.Partition.{Partition}
use Rattle.lx_automaton.proofs.EncodedLists.{decoded_option-some, different}
use Rattle.lx_minimize.proofs.Simulating.{classes_of, decoded_option-same, simulates_itself, stepped}

pub number_dead : (p : Partition) (b : ℕ) → b ≡ 0 → number_of p b ≡ block_count p - 1
number_dead p b e = rw e refl

pub number_live : (p : Partition) (b : ℕ) → b ≢ 0 → number_of p b ≡ b - 1
number_live p b ne = rw (different b 0 ne) refl

module _ (a q : Machine) (m : Complete) (p : Partition) (is : IsMachine a) (completion : IsCompletion a m) (simulates : Simulates q m (λ x. block p x))
    (classes : q.classes ≡ a.classes) (long : length q.starts ≡ length a.starts)
    (starts : (c : ℕ) (begin : Bool) → c < length a.starts → start_of q c begin ≡ number_of p (block p (start_of a c begin + 1))) where
  start_total : (c : ℕ) (begin : Bool) → c < length a.starts → start_of a c begin + 1 < total m
  start_total c begin h = let e = completion.states in let l = is.starts c begin h in omega arith

  -- the text leads to the state in the completion
  led_in_completion : (x : ℕ) → x ≢ 0 → (led : IsLedTo a (x - 1)) → after m (start_of a led.condition led.begin + 1) (classes_of a led.text) ≡ x
  led_in_completion x ne led =
      let s = start_of a led.condition led.begin in
      let one : s + 1 - 1 ≡ s = omega arith in
      let first : Some s ≡ decoded_option (s + 1) = ap (λ (k : ℕ). Some k) (sym one) ∙ sym (decoded_option-some (s + 1) (omega arith)) in
      let leads : state_after a (decoded_option (s + 1)) led.text ≡ Some (x - 1) = ap (λ o. state_after a o led.text) (sym first) ∙ led.leads in
      decoded_option-same _ _ (sym (stepped a m (λ k. k) (simulates_itself a m is completion) led.text (s + 1) (start_total led.condition led.begin led.there) led.bytes)
      ∙ leads ∙ sym (decoded_option-some x ne))

  -- and so to its block
  led_block : (x : ℕ) → x ≢ 0 → (led : IsLedTo a (x - 1)) → state_after q (decoded_option (block p (start_of a led.condition led.begin + 1))) led.text ≡ decoded_option (block p x)
  led_block x ne led =
      let s = start_of a led.condition led.begin in
      stepped q m (λ k. block p k) simulates led.text (s + 1) (start_total led.condition led.begin led.there) led.bytes
      ∙ ap (λ (cs : List ℕ). decoded_option (block p (after m (s + 1) (map (λ b. slice_index cs b) led.text)))) classes
      ∙ ap (λ k. decoded_option (block p k)) (led_in_completion x ne led)

  -- nothing leads out of block 0
  from_some : (b t : ℕ) (w : List ℕ) → state_after q (decoded_option b) w ≡ Some t → b ≢ 0
  from_some b t w e z = let f : None ≡ Some t = sym (ap (λ k. state_after q (decoded_option k) w) z) ∙ e in cc

  pub led_state : (x : ℕ) → x ≢ 0 → block p x ≢ 0 → IsLedTo a (x - 1) → IsLedTo q (block p x - 1)
  led_state x ne live led =
      let b = block p (start_of a led.condition led.begin + 1) in
      let leads : state_after q (decoded_option b) led.text ≡ Some (block p x - 1) = led_block x ne led ∙ decoded_option-some (block p x) live in
      let some : b ≢ 0 = from_some b (block p x - 1) led.text leads in
      record {
        condition = led.condition;
        begin = led.begin;
        text = led.text;
        there = let l = led.there in omega arith;
        bytes = led.bytes;
        leads =
            ap (λ (k : ℕ). state_after q (Some k) led.text) (starts led.condition led.begin led.there ∙ number_live p b some)
            ∙ ap (λ o. state_after q o led.text) (sym (decoded_option-some b some)) ∙ leads;
      }

  pub led_dead_start : HasDeadStart p a.starts → IsLedTo q (block_count p - 1)
  led_dead_start dead = elim dead.begins [ inl e ↦ at false e | inr e ↦ at true e ]
    where
      at : (begin : Bool) → start_of a dead.condition begin ≡ dead.state → IsLedTo q (block_count p - 1)
      at begin e = record {
        condition = dead.condition;
        begin = begin;
        text = [];
        there = let l = dead.below in omega arith;
        bytes = All-nil (λ b. b < 256);
        leads = ap (λ (k : ℕ). Some k) (starts dead.condition begin dead.below ∙ number_dead p (block p (start_of a dead.condition begin + 1)) (ap (λ k. block p (k + 1)) e ∙ dead.dead));
      }
