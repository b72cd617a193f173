-- The verdict on a text: its first fault, or its specification.
use Rattle.std.specs.Prelude.{◌≡◌, ℕ, ◌<◌, ◌≤◌, List, length, Option, Ok, Err}
use Rattle.lx_ere.specs.Regex.{Regex}
use Rattle.lx_rules.specs.Limits.{max_specification_bytes}
use Rattle.lx_rules.specs.Plain.{PlainSpec}
use Rattle.lx_spec.specs.First.{HoldsOfNone}
use Rattle.lx_spec.specs.Faults.{fault}
use Rattle.lx_spec.specs.Sections.{ParsedSections, sections_of}
use Rattle.lx_spec.specs.Dictionary.{AreTrees}
use Rattle.lx_spec.specs.Verdict.{symbols_of, Holds, IsFirstFault, cases}
use Rattle.lx_spec.specs.Outcome.{ResolvedRule, AreResolved, AreSpec}
use Rattle.lx_spec.specs.declared.fault.Code.TheVariants as code
use Rattle.lx_spec.specs.declared.fault.SpecFault.{SpecFault}

-- The text is too long; or a section has the fault, the first in the order of the text; or a rule has it, the first rule by rule.
pub data IsFault (text : List ℕ) : SpecFault → Type 0 where
  too_long : max_specification_bytes < length text → IsFault text (fault code.TooLong 0)
  in_sections : (f : SpecFault) → length text ≤ max_specification_bytes → sections_of text ≡ Err f → IsFault text f
  in_rules : (sections : ParsedSections) (trees : List (Option Regex)) (f : SpecFault) → length text ≤ max_specification_bytes → sections_of text ≡ Ok sections → AreTrees sections.definitions trees →
      IsFirstFault (symbols_of sections trees) (cases sections.rules) f → IsFault text f

-- The text has no fault, and this is its specification.
pub record IsRead (text : List ℕ) (spec : PlainSpec) : Type 0 where
  pub short : length text ≤ max_specification_bytes
  pub sections : ParsedSections
  pub parsed : sections_of text ≡ Ok sections
  pub trees : List (Option Regex)
  pub read : AreTrees sections.definitions trees
  pub clean : HoldsOfNone (Holds (symbols_of sections trees)) (cases sections.rules)
  pub resolved : List ResolvedRule
  pub resolves : AreResolved sections.start_conditions sections.rules resolved
  pub is : AreSpec (symbols_of sections trees) sections.rules resolved spec
