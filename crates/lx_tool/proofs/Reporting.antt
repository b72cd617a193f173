-- Reports of texts that are rejected, or accepted.
use Rattle.std.proofs.Common.{ℕ, zero, suc, ◌≡◌, ◌<◌, Bool, true, false, List, ◌⊎◌, inl, inr, refl, sym, ◌∙◌, arith}
use Rattle.lx_check.specs.Findings.{IfAccepted}
use Rattle.lx_check.specs.declared.report.Report.{Report}
use Rattle.lx_check.specs.declared.report.Report.TheVariants as report
use Rattle.lx_report.specs.Said.{BeginsWithWarning, TellsWarnings}
use Rattle.lx_warnings.specs.Kinds.{has_kind}
use Rattle.lx_warnings.specs.declared.kinds.KindSet.{KindSet}
use Rattle.lx_cli.specs.CommandLine.{PlainCheck}
use Rattle.lx_tool.specs.Checking.{HasErrors, HasErrorWord, IsAccepted, TellsAccepted, TellsNone, TellsOne, has_error}
use Rattle.lx_tool.specs.Switching.{AreKindsAsked}

pub none_accepted : (P : Type 0) (r : Report) → IfAccepted (λ accepted. ⊥) r → IfAccepted (λ accepted. P) r
none_accepted P (report.Refused findings) h = tt
none_accepted P (report.Accepted accepted) h = absurd h

asked_told : (check : PlainCheck) (kinds : KindSet) (said : List ℕ) → AreKindsAsked check kinds → BeginsWithWarning check.rules (has_kind kinds) said → TellsOne check said
asked_told check kinds said k h = record { kind = h.kind; asked = sym (k.each h.kind) ∙ h.asked; told = h.told }

-- the facts about a text that is accepted and has warnings that are errors
pub had_errors : (check : PlainCheck) (kinds : KindSet) (are_errors : Bool) (count : ℕ) (said : List ℕ) (r : Report) → are_errors ≡ has_error check.warnings → AreKindsAsked check kinds
    → (are_errors ≡ true) × (0 < count) → (check.json ≡ false → IfAccepted (λ accepted. TellsWarnings check.rules check.quiet (has_kind kinds) count said) r)
    → IfAccepted (λ accepted. HasErrors check said) r
had_errors check kinds are_errors count said (report.Refused findings) errors k some h = tt
had_errors check kinds are_errors count said (report.Accepted accepted) errors k some h =
    record { word = sym errors ∙ some.0; warning = λ json. asked_told check kinds said k ((h json).some some.1) }

told_or_none : (check : PlainCheck) (kinds : KindSet) (count : ℕ) (said : List ℕ) → AreKindsAsked check kinds → TellsWarnings check.rules check.quiet (has_kind kinds) count said
    → TellsOne check said ⊎ TellsNone check said
told_or_none check kinds zero said k h = inr (h.none refl)
told_or_none check kinds (suc n) said k h = inl (asked_told check kinds said k (h.some (omega arith)))

-- the report on a text that is accepted, and has no warnings that are errors
pub accepted_told : (check : PlainCheck) (kinds : KindSet) (are_errors : Bool) (count : ℕ) (said : List ℕ) (r : Report) → IsAccepted r → are_errors ≡ has_error check.warnings
    → AreKindsAsked check kinds → (are_errors ≡ true → count ≡ 0) → IfAccepted (λ accepted. TellsWarnings check.rules check.quiet (has_kind kinds) count said) r → TellsAccepted check said
accepted_told check kinds are_errors count said (report.Refused findings) is errors k none h = absurd is
accepted_told check kinds are_errors count said (report.Accepted accepted) is errors k none h =
    record { warnings = told_or_none check kinds count said k h; no_errors = λ word. h.none (none (errors ∙ word)) }
