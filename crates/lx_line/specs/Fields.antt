-- The fields of a line after its prefix.
use Rattle.std.specs.Prelude.{◌+◌, ◌≤◌, ℕ, Bool, if◌then◌else◌, List, ◌++◌, codes, decimal, drop, length, take}
use Rattle.std.specs.List.{flat_map}
use Rattle.lx_line.specs.Decimals.{IsAmong}
use Rattle.lx_line.specs.Escapes.{escaped}
use Rattle.lx_line.specs.declared.fields.Digits.{Digits}
use Rattle.lx_line.specs.declared.fields.Numbers.{Numbers}
use Rattle.lx_line.specs.declared.fields.RestParts.{RestParts}

-- the part of a line after its prefix: line, start and length with a space after each, and the text
abbrev pub rest_text : ℕ → ℕ → ℕ → List ℕ → List ℕ
rest_text line start len text =
    (decimal line ++ codes " ") ++ ((decimal start ++ codes " ") ++ ((decimal len ++ codes " ") ++ (flat_map escaped text ++ codes "\n")))

-- the same of a line without its text
abbrev pub textless : ℕ → ℕ → ℕ → List ℕ
textless line start len = (decimal line ++ codes " ") ++ ((decimal start ++ codes " ") ++ (decimal len ++ codes "\n"))

-- the part after the prefix, with this text or without a text
abbrev pub rest_with : Bool → ℕ → ℕ → ℕ → List ℕ → List ℕ
rest_with printed line start len text = if printed then rest_text line start len text else textless line start len

-- the kept digits are those of these numbers
pub record AreKept (digits : Digits) (numbers : Numbers) : Type 0 where
  pub line : IsAmong digits.line.first digits.line.count numbers.line
  pub start : IsAmong digits.start.first digits.start.count numbers.start

-- the text of a line
abbrev pub text_in : RestParts → List ℕ
text_in parts = take parts.numbers.len (drop parts.from parts.bytes.now)

-- The digits are those of the numbers, the text is short, and 16 bytes can be read after it.
pub record AreReady (parts : RestParts) : Type 0 where
  pub digits : AreKept parts.digits.now parts.numbers
  pub short : parts.numbers.len ≤ 96
  pub text : parts.from + parts.numbers.len + 16 ≤ length parts.bytes.now
