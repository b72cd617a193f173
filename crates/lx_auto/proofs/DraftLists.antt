-- The lists of the draft, put together.
use Rattle.std.proofs.Common.{◌≡◌, ℕ, zero, suc, ◌+◌, ◌*◌, ◌<◌, ◌++◌, ◌∷◌, refl, Bool, true, false, List, Option, None, length, map, replicate, ap}
use Rattle.std.specs.Option.{option_map}
use Rattle.lx_automaton.specs.Automata.{start_of}
use Rattle.lx_auto.specs.Drafting.{AreStartStates, IsDrafted}
use Rattle.lx_auto.specs.Exploring.{start_number}
use Rattle.lx_automaton.specs.EncodedOptions.{decoded_option, machine_of}

-- n times none, encoded
pub none_encoded : (n : ℕ) → map decoded_option (replicate n 0) ≡ replicate n None
none_encoded zero = refl
none_encoded (suc n) = ap (λ (xs : List (Option ℕ)). None ∷ xs) (none_encoded n)

pub drafted : (starts : List (ℕ × ℕ)) (classes representatives accepted encoded : List ℕ) (matched targets : List (Option ℕ)) (conditions width : ℕ) (own : List ℕ) →
    AreStartStates starts conditions → own ≡ classes → width ≡ length representatives → map decoded_option accepted ≡ replicate (2 * conditions) None ++ matched →
    map decoded_option encoded ≡ map (option_map (λ j. 2 * conditions + j)) targets →
    IsDrafted conditions classes (length representatives) matched targets (machine_of starts own width accepted encoded)
drafted starts classes representatives accepted encoded matched targets conditions width own are same wide labels steps = record {
  conditions_are = are.long;
  starts_are = state;
  classes_are = same;
  width_is = wide;
  accepted_are = labels;
  targets_are = steps;
}
  where
    state : (c : ℕ) (begin : Bool) → c < conditions → start_of (machine_of starts own width accepted encoded) c begin ≡ start_number c begin
    state c true h = ap (λ (x : ℕ × ℕ). x.1) (are.each c h)
    state c false h = ap (λ (x : ℕ × ℕ). x.0) (are.each c h)
