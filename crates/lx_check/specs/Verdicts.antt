-- The faults of the text of a specification.
use Rattle.std.specs.Prelude.{ℕ, List}
use Rattle.lx_auto.specs.TooLarge.{HasTooManyPositions, HasTooManySets}
use Rattle.lx_rules.specs.Plain.{PlainSpec}
use Rattle.lx_spec.specs.Whole.{IsFault, IsRead}
use Rattle.lx_check.specs.declared.text_fault.TextFault.{TextFault}
use Rattle.lx_check.specs.declared.text_fault.TextFault.TheVariants.{Specification, TooManyPositions, TooManySets}

-- a specification is too large for tables: it has too many positions, or too many reached sets
abbrev pub IsTooLarge : PlainSpec → TextFault → Type 0
IsTooLarge spec (Specification fault) = ⊥
IsTooLarge spec TooManyPositions = HasTooManyPositions spec
IsTooLarge spec TooManySets = HasTooManySets spec

-- the text's specification is too large
pub record SaysTooLarge (text : List ℕ) (finding : TextFault) : Type 0 where
  pub spec : PlainSpec
  pub read : IsRead text spec
  pub too_large : IsTooLarge spec finding

-- This is a finding of the text.
abbrev pub IsFinding : List ℕ → TextFault → Type 0
IsFinding text (Specification fault) = IsFault text fault
IsFinding text TooManyPositions = SaysTooLarge text TooManyPositions
IsFinding text TooManySets = SaysTooLarge text TooManySets
