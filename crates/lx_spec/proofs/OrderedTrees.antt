-- The trees of an accepted specification are readings, so the bounds of their intervals are in order.
use Rattle.std.proofs.Common.{ℕ, suc, List, [], ◌∷◌, Option, refl}
use Rattle.std.specs.Prelude.{IsTrue}
use Rattle.std.specs.List.{list_all}
use Rattle.lx_ere.specs.Regex.{Regex, Reading}
use Rattle.lx_ere.specs.Bounds.{has_ordered_bounds}
use Rattle.lx_ere.specs.Pattern.{IsPattern, IsSubstitute}
use Rattle.lx_rules.specs.Plain.{StartCondition, PlainDefinition}
use Rattle.lx_rules.specs.Invariant.{are_ordered}
use Rattle.lx_spec.specs.Sections.{RawDefinition, RawRule}
use Rattle.lx_spec.specs.Dictionary.{AreTrees}
use Rattle.lx_spec.specs.Outcome.{ResolvedRule, AreResolved, AreReached, none, reached, passed, patterns_in}
use Rattle.lx_spec.proofs.Conjunctions.{both}

module _ (patterns : (text : List ℕ) (r : Reading) → IsPattern text r → IsTrue (has_ordered_bounds r.tree)) (substitutes : (text : List ℕ) (tree : Regex) → IsSubstitute text tree → IsTrue (has_ordered_bounds tree)) where
  definitions-ordered : (R : ℕ → Type 0) (i : ℕ) (raw_definitions : List RawDefinition) (trees : List (Option Regex)) (definitions : List PlainDefinition) → AreReached R i raw_definitions trees definitions → AreTrees raw_definitions trees
      → IsTrue (list_all (λ d. has_ordered_bounds d.tree) definitions)
  definitions-ordered R _ _ _ _ (none i) read = refl
  definitions-ordered R _ _ _ _ (reached i d tree raw_definitions' trees' definitions' at more) read =
      both (has_ordered_bounds tree) (list_all (λ e. has_ordered_bounds e.tree) definitions') (substitutes d.substitute tree read.0) (definitions-ordered R (suc i) raw_definitions' trees' definitions' more read.1)
  definitions-ordered R _ _ _ _ (passed i d t raw_definitions' trees' definitions' never more) read = definitions-ordered R (suc i) raw_definitions' trees' definitions' more read.1

  patterns-ordered : (start_conditions : List StartCondition) (raws : List RawRule) (resolved : List ResolvedRule) → AreResolved start_conditions raws resolved → IsTrue (list_all has_ordered_bounds (patterns_in resolved))
  patterns-ordered start_conditions [] [] are = refl
  patterns-ordered start_conditions [] (s ∷ resolved) are = absurd are
  patterns-ordered start_conditions (raw ∷ raws) [] are = absurd are
  patterns-ordered start_conditions (raw ∷ raws) (s ∷ resolved) are =
      both (has_ordered_bounds s.reading.tree) (list_all has_ordered_bounds (patterns_in resolved)) (patterns raw.pattern s.reading (are.0).reading) (patterns-ordered start_conditions raws resolved are.1)

  pub ordered : (R : ℕ → Type 0) (start_conditions : List StartCondition) (raw_definitions : List RawDefinition) (trees : List (Option Regex)) (definitions : List PlainDefinition) (raws : List RawRule) (resolved : List ResolvedRule)
      → AreTrees raw_definitions trees → AreReached R 0 raw_definitions trees definitions → AreResolved start_conditions raws resolved → IsTrue (are_ordered definitions (patterns_in resolved))
  unfolding are_ordered
  ordered R start_conditions raw_definitions trees definitions raws resolved read are resolves =
      both (list_all (λ d. has_ordered_bounds d.tree) definitions) (list_all has_ordered_bounds (patterns_in resolved)) (definitions-ordered R 0 raw_definitions trees definitions are read) (patterns-ordered start_conditions raws resolved resolves)
