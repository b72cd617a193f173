-- The findings in the text of a specification after its first fault: the first fault of the text in which that one is masked, and so on.
use Rattle.std.specs.Prelude.{◌≡◌, ℕ, suc, ◌-◌, ◌<◌, ◌≤◌, ⊤, List, [], ◌∷◌, ◌++◌, Option, Some, None, length}
use Rattle.lx_rules.specs.Plain.{PlainSpec}
use Rattle.lx_spec.specs.Whole.{IsFault, IsRead}
use Rattle.lx_spec.specs.declared.fault.SpecFault.{SpecFault}
use Rattle.lx_check.specs.Verdicts.{SaysTooLarge}
use Rattle.lx_check.specs.Without.{without}
use Rattle.lx_check.specs.declared.text_fault.TextFault.{TextFault}
use Rattle.lx_check.specs.declared.text_fault.TextFault.TheVariants.{Specification}
use Rattle.lx_check.specs.declared.report.Report.{Report}
use Rattle.lx_check.specs.declared.report.Report.TheVariants as report

-- The findings in a text, if there is one: at most `most` faults, with at most `left` bytes read.
pub data AreFurther : ℕ → ℕ → Option (List ℕ) → List TextFault → Type 0 where
  -- the fault before hides all else
  hidden : (most left : ℕ) → AreFurther most left None []
  -- enough faults were found
  enough : (left : ℕ) (rest : Option (List ℕ)) → AreFurther 0 left rest []
  -- enough bytes were read
  too_long : (most left : ℕ) (text : List ℕ) → left < length text → AreFurther most left (Some text) []
  -- the text has no fault
  clean : (most left : ℕ) (text : List ℕ) (spec : PlainSpec) → IsRead text spec → AreFurther most left (Some text) []
  -- the first fault of the text, and the findings where it is masked
  found : (most left : ℕ) (text : List ℕ) (fault : SpecFault) (more : List TextFault) → length text ≤ left → IsFault text fault →
      AreFurther most (left - length text) (without text fault) more → AreFurther (suc most) left (Some text) (Specification fault ∷ more)

-- the greatest number of bytes that are read, of a text and of those in which its faults are masked
abbrev pub max_read_bytes : ℕ
max_read_bytes = 2000000

-- The findings in a text that is rejected: its specification is too large, or its first fault and the findings after it.
pub data AreFindings (most : ℕ) (text : List ℕ) : List TextFault → Type 0 where
  too_large : (finding : TextFault) → SaysTooLarge text finding → AreFindings most text (finding ∷ [])
  faults : (fault : SpecFault) (more : List TextFault) → IsFault text fault → AreFurther (most - 1) (max_read_bytes - length text) (without text fault) more →
      AreFindings most text (Specification fault ∷ more)

-- further findings follow these
pub record HasFurther (most left : ℕ) (rest : Option (List ℕ)) (old new : List TextFault) : Type 0 where
  pub more : List TextFault
  pub new_is : new ≡ old ++ more
  pub are : AreFurther most left rest more

abbrev pub IfRefused : (List TextFault → Type 0) → Report → Type 0
IfRefused P (report.Refused findings) = P findings.items
IfRefused P (report.Accepted accepted) = ⊤
