-- The text that `explain` prints: the meaning of a code of an error or of a cause, or a list of all.
use Rattle.std.specs.Prelude.{◌≡◌, ◌≢◌, Option, None, true, nat_eq, IfSome, List, ℕ}
use Rattle.std.specs.Io.KnownBytes.{Appends}
use Rattle.std.specs.List.{starts_with}
use Rattle.lx_tool.specs.declared.failure.CommandFault.{CommandFault}
use Rattle.lx_tool.specs.declared.failure.CommandFault.TheVariants.{Unprintable}
use Rattle.lx_tool.specs.declared.failure.PrintFault.TheVariants.{Unexplained}

-- Something was written; if a word is given, it begins with that.
pub record IsExplained (word : Option (List ℕ)) (old new : Option (List ℕ)) : Type 0 where
  pub said : List ℕ
  pub wrote : Appends old new said
  pub begins : IfSome word (λ w. starts_with nat_eq said w ≡ true)

-- The word is unknown.
abbrev pub IsUnexplained : Option (List ℕ) → CommandFault → Type 0
IsUnexplained word failure = (failure ≡ Unprintable Unexplained) × (word ≢ None)
