-- Arguments that ask for nothing and were not rejected ask for the help or the version.
use Rattle.std.proofs.Common.{ℕ, ◌≡◌, List, Option, Some, None, Result, Ok, Err, IfOk, IfErr, refl, sym, ◌∙◌, subst, arith}
use Rattle.clap.specs.declared.error.Error.{Error}
use Rattle.clap.specs.Words.{kind_of}
use Rattle.lx_cli.specs.CommandLine.{Asked, IsFault, IsTold, asked_as}
use Rattle.lx_cli.specs.declared.request.WordsFault.{WordsFault}
use Rattle.lx_cli.specs.declared.request.Request.{Request}
use Rattle.lx_cli.specs.declared.request.Request.TheVariants as request
use Rattle.lx_tool.specs.Helping.{AskForHelp}
use Rattle.lx_tool.specs.Statuses.{status_of}
use Rattle.lx_tool.specs.declared.failure.CommandFault.{CommandFault}
use Rattle.lx_tool.proofs.Obeyed.{some_status}

-- no other request asks for nothing
pub ask_for_help : (words : List (List ℕ)) (r : Request) (asked : Option Asked) → asked ≡ asked_as r →
    ((text : Error) → ◌≡◌ {A = Result Request WordsFault} (Ok r) (Ok (request.Told text)) → IsTold (kind_of text) × IsFault words (kind_of text)) → asked ≡ None → AskForHelp words
ask_for_help words (request.Told text) asked is told none = let t = told text refl in record { kind = kind_of text; told = t.0; answer = t.1 }
ask_for_help words request.Stored asked is told none = absurd (let e = sym is ∙ none in cc)
ask_for_help words (request.Run o) asked is told none = absurd (let e = sym is ∙ none in cc)
ask_for_help words (request.Scan o) asked is told none = absurd (let e = sym is ∙ none in cc)
ask_for_help words (request.Gen w) asked is told none = absurd (let e = sym is ∙ none in cc)
ask_for_help words (request.Up w) asked is told none = absurd (let e = sym is ∙ none in cc)
ask_for_help words (request.Check w) asked is told none = absurd (let e = sym is ∙ none in cc)
ask_for_help words (request.Explain w) asked is told none = absurd (let e = sym is ∙ none in cc)
ask_for_help words (request.Show w) asked is told none = absurd (let e = sym is ∙ none in cc)
ask_for_help words (request.Import w) asked is told none = absurd (let e = sym is ∙ none in cc)

-- a known fact holds after success, too
pub known_anyway : {V : Type 0} (P : Type 0) (ended : Result V CommandFault) → P → IfOk ended (λ cut. P)
known_anyway P (Ok cut) held = held
known_anyway P (Err failure) held = tt

-- a fact that holds after success holds at status 0
pub at_status_0 : {V : Type 0} (P : Type 0) (ended : Result V CommandFault) (status : ℕ) → IfOk ended (λ cut. P) → IfErr ended (λ failure. status ≡ status_of failure) → status ≡ 0 → P
at_status_0 P (Ok cut) status held other none = held
at_status_0 P (Err failure) status held other none = let some = some_status failure in absurd (omega (arith, some, other, none))
