-- Outputs that would overwrite the input, or one another.
use Rattle.std.specs.Prelude.{◌≡◌, ◌⊎◌, ⊤, ℕ, Bool, false, List, Option, Some, MatchOption, codes}
use Rattle.std.specs.Borrow.{Bor}
use Rattle.lx_cli.specs.CommandLine.{PlainImport}
use Rattle.lx_tool.specs.declared.failure.CommandFault.{CommandFault}
use Rattle.lx_tool.specs.declared.failure.CommandFault.TheVariants.{Memory, Refused}
use Rattle.lx_tool.specs.declared.failure.OutputFault.{OutputFault}
use Rattle.lx_tool.specs.declared.failure.OutputFault.TheVariants.{ActionsOnOutput, Overwritten, Same}
use Rattle.lx_tool.specs.declared.failure.RequestFault.TheVariants.{Outputs}

-- The targets answered that the file of an option, if there is one, isn't that of another name.
abbrev pub IsApart : {T : Type 0} → (T → List ℕ → List ℕ → Bool → Type 0) → T → Option (List ℕ) → List ℕ → Type 0
IsApart same targets output name = MatchOption output ⊤ (λ file. same targets file name false)

-- They gave this answer for the files of `-o` and `-c`, if both are given.
abbrev pub AreApart : {T : Type 0} → (T → List ℕ → List ℕ → Bool → Type 0) → T → PlainImport → Type 0
AreApart same targets i = MatchOption i.target ⊤ (λ file. MatchOption i.actions ⊤ (λ actions. same targets file actions false))

-- They gave this answer for each output of `import` and its input, and for its two outputs.
pub record AreImportsApart {T : Type 0} (same : T → List ℕ → List ℕ → Bool → Type 0) (targets : T) (i : PlainImport) : Type 0 where
  pub target : IsApart same targets i.target i.rules
  pub actions : IsApart same targets i.actions i.rules
  pub both : AreApart same targets i

-- The file of an option is the input, and would overwrite it.
pub record IsOverwritten (fault : OutputFault) (output : Option (List ℕ)) (input : List ℕ) : Type 0 where
  pub option : ℕ
  pub file : Bor (List ℕ)
  pub name : Bor (List ℕ)
  pub is : fault ≡ Overwritten option file name
  pub given : output ≡ Some file.now
  pub named : name.now ≡ input

-- The files of `-o` and `-c` are one.
pub record AreOneFile (fault : OutputFault) (i : PlainImport) : Type 0 where
  pub target : Bor (List ℕ)
  pub actions : Bor (List ℕ)
  pub is : fault ≡ Same target actions
  pub first : i.target ≡ Some target.now
  pub second : i.actions ≡ Some actions.now

-- the fault for which the outputs of `import` are rejected
abbrev pub AreOutputsOfImportRefused : PlainImport → OutputFault → Type 0
AreOutputsOfImportRefused i fault =
    IsOverwritten fault i.target i.rules
    ⊎ (IsOverwritten fault i.actions i.rules
    ⊎ (AreOneFile fault i
    ⊎ ((fault ≡ ActionsOnOutput) × (i.actions ≡ Some (codes "-")))))

-- Arguments are rejected for such a fault, or an allocation failed.
abbrev pub IsRefusedFor : (OutputFault → Type 0) → CommandFault → Type 0
IsRefusedFor Is failure = (failure ≡ Memory) ⊎ ((fault : OutputFault) × (failure ≡ Refused (Outputs fault)) × Is fault)
