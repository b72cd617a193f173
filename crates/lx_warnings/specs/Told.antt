-- The warnings about a text.
use Rattle.std.specs.Prelude.{ℕ, ◌<◌, List, length}
use Rattle.lx_diagnose.specs.Places.{IsInText}
use Rattle.lx_diagnose.specs.Printed.{ArePrinted}
use Rattle.lx_warnings.specs.declared.warnings.Warning.{Warning}

-- The place lies in the text, and the words are one printed line.
pub record IsTold (text : List ℕ) (warning : Warning) : Type 0 where
  pub place : IsInText text warning.place
  pub printed : ArePrinted warning.words.items
  pub some : 0 < length warning.words.items
