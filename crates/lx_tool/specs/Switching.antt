-- Sets of the kinds of warnings, as the words of `-W` change them.
use Rattle.std.specs.Prelude.{◌≡◌, ℕ, Bool, List, if◌then◌else◌}
use Rattle.std.specs.Str.{bytes_eq}
use Rattle.lx_warnings.specs.Kinds.{has_kind}
use Rattle.lx_warnings.specs.Names.{name_text}
use Rattle.lx_warnings.specs.declared.kinds.KindSet.{KindSet}
use Rattle.lx_warnings.specs.declared.kinds.WarningKind.{WarningKind}
use Rattle.lx_cli.specs.CommandLine.{PlainCheck}
use Rattle.lx_tool.specs.Checking.{asked_by_word, is_asked}

-- A kind has this name, and is in the new set if `is_in` is true. All others are as they were.
pub record IsSwitched (name : List ℕ) (is_in : Bool) (old new : KindSet) : Type 0 where
  pub kind : WarningKind
  pub named : name ≡ name_text kind
  pub each : (other : WarningKind) → has_kind new other ≡ (if bytes_eq (name_text kind) (name_text other) then is_in else has_kind old other)

-- The new set has the kinds that are enabled after a word.
pub record IsAskedBehind (word : List ℕ) (old new : KindSet) : Type 0 where
  pub each : (kind : WarningKind) → has_kind new kind ≡ asked_by_word kind (has_kind old kind) word

-- The set has the enabled kinds.
pub record AreKindsAsked (check : PlainCheck) (kinds : KindSet) : Type 0 where
  pub each : (kind : WarningKind) → has_kind kinds kind ≡ is_asked check kind
