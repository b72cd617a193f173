-- The prefix of a line: the number of its file, its class and its kind, with a space after each.
use Rattle.std.specs.Prelude.{◌≡◌, All, ◌≤◌, ℕ, List, ◌++◌, take, Option, Some, None, codes, decimal}
use Rattle.lx_rules.specs.declared.rule.Kind.{Kind}
use Rattle.lx_tables.specs.Labels.{kind_of_label}
use Rattle.lx_scan.specs.ItemParts.{IsKindAmong}
use Rattle.lx_piece.specs.Plans.{Planned, kinds_of}
use Rattle.lx_line.specs.Lines.{name_text}
use Rattle.lx_line.specs.declared.prefixes.Prefix.{Prefix}
use Rattle.lx_line.specs.declared.prefixes.Prefixes.{Prefixes}
use Rattle.lx_line.specs.declared.prefixes.Slot.{Slot}

-- a kind, if there is one, is the plan's
abbrev pub IsKindOf : Planned → Option Kind → Type 0
IsKindOf plan None = Unit {0}
IsKindOf plan (Some kind) = IsKindAmong (kinds_of plan) kind

-- class and kind
abbrev pub class_and_kind : Planned → Option Kind → List ℕ
class_and_kind plan None = codes "E - "
class_and_kind plan (Some kind) = codes "T " ++ name_text plan kind ++ codes " "

-- the prefix of the line of a token of this kind, or of an Echo
abbrev pub prefix_text : Planned → ℕ → Option Kind → List ℕ
prefix_text plan file kind = decimal file ++ codes " " ++ class_and_kind plan kind

-- this is the prefix, unless it is too long to be kept
pub record IsPrefixOf (bytes : List ℕ) (prefix : Prefix) : Type 0 where
  pub text : prefix.len ≤ 128 → take prefix.len prefix.text ≡ bytes

-- the kept prefixes are these texts, by the kinds of labels
pub record ArePrefixesOf (texts : Option Kind → List ℕ) (prefixes : Prefixes) : Type 0 where
  pub slots : All (λ (slot : Slot). IsPrefixOf (texts (kind_of_label slot.label)) slot.prefix) prefixes.slots
