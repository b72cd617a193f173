use Rattle.std.proofs.Common.{◌≡◌, true, drop, map, if◌then◌else◌}
use Rattle.lx_warnings.specs.Kinds.{has_kind, is_usual}
use Rattle.lx_warnings.specs.declared.kinds.WarningKind.{WarningKind}
use Rattle.lx_cli.specs.CommandLine.{plain_check}
use Rattle.lx_tool.specs.Checking.{asked_by_words, has_error, is_asked}
use Rattle.lx_tool.proofs.checking.warnings_asked.Given as goal

abbrev pub invariant-loop-word : goal.invariant-loop-word
invariant-loop-word l = record {
  errors : (if l.warnings.are_errors then true else has_error (map (λ w. w.now) (drop l.word-index l.words.warnings.items))) ≡ has_error (plain_check l.words).warnings;
  kinds : (kind : WarningKind) → asked_by_words kind (has_kind l.warnings.kinds kind) (map (λ w. w.now) (drop l.word-index l.words.warnings.items)) ≡ is_asked (plain_check l.words) kind;
}
