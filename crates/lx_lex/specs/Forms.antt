-- The form of a scanner.
use Rattle.std.specs.Prelude.{ℕ, nat_lt, if◌then◌else◌, Bool, true, false, Option, Some, None}
use Rattle.lx_lex.specs.declared.forms.ScannerForm.{ScannerForm}
use Rattle.lx_lex.specs.declared.forms.ScannerForm.TheVariants.{Rows, States}

-- rows if there are lists for REJECT; else the form that is asked for; without one, code for up to 1,000 states
abbrev pub chosen_form : Bool → Option ScannerForm → ℕ → ScannerForm
chosen_form true asked states = Rows
chosen_form false (Some form) states = form
chosen_form false None states = if nat_lt 1000 states then Rows else States
