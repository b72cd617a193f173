-- Names and conditions that are added to the declared ones.
use Rattle.std.proofs.Common.{◌≡◌, ℕ, ◌≤◌, ◌<◌, Bool, true, false, nat_eq, nat_lt, List, [], ◌∷◌, ◌++◌, length, Result, Ok, Err, ap, ◌∙◌, arith}
use Rattle.std.specs.List.{list_any}
use Rattle.std.specs.Cmp.Lexicographic.{pointwise}
use Rattle.std.proofs.lemmas.Bool.Decides.{nat_tests}
use Rattle.lx_rules.specs.Limits.{max_definitions, max_start_conditions}
use Rattle.lx_spec.specs.Faults.{fault}
use Rattle.lx_spec.specs.Sections.{ParsedSections, ◌>>=◌, with_definition, with_start_condition, with_start_conditions}
use Rattle.lx_spec.specs.declared.fault.Code.TheVariants as code
use Rattle.lx_spec.specs.declared.fault.SpecFault.{SpecFault}
use Rattle.lx_spec.proofs.Words.{pick_first, pick_second}

not_below : (a b : ℕ) → b ≤ a → nat_lt a b ≡ false
not_below a b h = grind (arith, nat_tests)

below : (a b : ℕ) → a < b → nat_lt a b ≡ true
below a b h = grind (arith, nat_tests)

pub definition_full : (d : ParsedSections) (n : ℕ) (name text : List ℕ) → list_any (λ e. pointwise nat_eq e.name name) d.definitions ≡ false → max_definitions ≤ length d.definitions → with_definition d n name text ≡ Err (fault code.TooMany n)
definition_full d n name text unknown full = pick_second _ _ unknown ∙ pick_second _ _ (not_below (length d.definitions) max_definitions full)

pub definition_more : (d : ParsedSections) (n : ℕ) (name text : List ℕ) → list_any (λ e. pointwise nat_eq e.name name) d.definitions ≡ false → length d.definitions < max_definitions
    → with_definition d n name text ≡ Ok (record d { definitions = d.definitions ++ record { name = name; substitute = text } ∷ [] })
definition_more d n name text unknown room = pick_second _ _ unknown ∙ pick_first _ _ (below (length d.definitions) max_definitions room)

pub start_condition_full : (d : ParsedSections) (n : ℕ) (exclusive : Bool) (name : List ℕ) → list_any (λ e. pointwise nat_eq e.name name) d.start_conditions ≡ false → max_start_conditions ≤ length d.start_conditions → with_start_condition d n exclusive name ≡ Err (fault code.TooMany n)
start_condition_full d n exclusive name unknown full = pick_second _ _ unknown ∙ pick_second _ _ (not_below (length d.start_conditions) max_start_conditions full)

pub start_condition_more : (d : ParsedSections) (n : ℕ) (exclusive : Bool) (name : List ℕ) → list_any (λ e. pointwise nat_eq e.name name) d.start_conditions ≡ false → length d.start_conditions < max_start_conditions
    → with_start_condition d n exclusive name ≡ Ok (record d { start_conditions = d.start_conditions ++ record { name = name; exclusive = exclusive } ∷ [] })
start_condition_more d n exclusive name unknown room = pick_second _ _ unknown ∙ pick_first _ _ (below (length d.start_conditions) max_start_conditions room)

pub start_conditions_stop : (d : ParsedSections) (n : ℕ) (exclusive : Bool) (names : List (List ℕ)) (name : List ℕ) (more : List (List ℕ)) (f : SpecFault) → names ≡ name ∷ more → with_start_condition d n exclusive name ≡ Err f → with_start_conditions d n exclusive names ≡ Err f
start_conditions_stop d n exclusive names name more f e stop = ap (with_start_conditions d n exclusive) e ∙ ap (λ (r : Result ParsedSections SpecFault). r >>= λ x. with_start_conditions x n exclusive more) stop
