-- A text in which a fault is masked, so that the rest can be checked. The lines stay, with their numbers.
use Rattle.std.specs.Prelude.{Bool, true, false, ℕ, ◌+◌, ◌&&◌, nat_eq, nat_lt, if◌then◌else◌, List, [], ◌∷◌, ◌++◌, length, Option, Some, None, Result, Ok, Err}
use Rattle.bstr.specs.Text.{lines_of}
use Rattle.lx_rules.specs.Limits.{max_specification_bytes}
use Rattle.lx_scan.specs.Steps.{newlines}
use Rattle.lx_spec.specs.Bytes.{lines, next_word}
use Rattle.lx_spec.specs.Sections.{ParsedSections, RawRule, sections_of}
use Rattle.lx_spec.specs.declared.fault.Code.{Code}
use Rattle.lx_spec.specs.declared.fault.Code.TheVariants as code
use Rattle.lx_spec.specs.declared.fault.SpecFault.{SpecFault}

-- the replacement of line n: `this` for the first line, and only a newline for those after it up to the end
abbrev pub line_instead : List ℕ → ℕ → ℕ → ℕ → List ℕ → List ℕ
line_instead this first end n line = if nat_eq n first then this else if nat_lt first n && nat_lt n end then 10 ∷ [] else line

-- the lines from number n on, with the replacement
abbrev pub lines_instead : List ℕ → ℕ → ℕ → ℕ → List (List ℕ) → List ℕ
lines_instead this first end n [] = []
lines_instead this first end n (line ∷ lines) = line_instead this first end n line ++ lines_instead this first end (n + 1) lines

-- the text, with the replacement
abbrev pub text_instead : List ℕ → ℕ → ℕ → List ℕ → List ℕ
text_instead this first end text = lines_instead this first end 1 (lines_of text)

-- a rule that takes one byte and does nothing, `x ;`, with its newline
abbrev pub idle_rule : List ℕ
idle_rule = 120 ∷ 32 ∷ 59 ∷ 10 ∷ []

-- the line after the rule that begins on this line
abbrev pub end_of_rule : List RawRule → ℕ → Option ℕ
end_of_rule [] line = None
end_of_rule (rule ∷ rules) line = if nat_eq rule.line line then Some (line + 1 + newlines rule.action) else end_of_rule rules line

abbrev pub end_in : Result ParsedSections SpecFault → ℕ → Option ℕ
end_in (Ok sections) line = end_of_rule sections.rules line
end_in (Err fault) line = None

-- the text, if it isn't longer than a specification may be
abbrev pub if_short : List ℕ → Option (List ℕ)
if_short text = if nat_lt max_specification_bytes (length text) then None else Some text

abbrev pub without_lines : List ℕ → ℕ → Option ℕ → List ℕ → Option (List ℕ)
without_lines this first None text = None
without_lines this first (Some end) text = if_short (text_instead this first end text)

-- the line with this number, if the first of these has number n
abbrev pub line_numbered : ℕ → ℕ → List (List ℕ) → List ℕ
line_numbered n number [] = []
line_numbered n number (line ∷ lines) = if nat_eq n number then line else line_numbered (n + 1) number lines

abbrev pub has_no_word : Option (List ℕ × List ℕ) → Bool
has_no_word None = true
has_no_word (Some word) = false

abbrev pub has_one_word : Option (List ℕ × List ℕ) → Bool
has_one_word None = false
has_one_word (Some word) = has_no_word (next_word word.1)

abbrev pub has_two_words : Option (List ℕ × List ℕ) → Bool
has_two_words None = false
has_two_words (Some word) = has_one_word (next_word word.1)

-- a line of Definitions declares at most one name: it doesn't begin with %, or has two words
abbrev pub declares_one : List ℕ → Bool
declares_one [] = true
declares_one (c ∷ line) = if nat_eq c 37 then has_two_words (next_word (c ∷ line)) else true

-- the text without the declaration on this line, if that declares one name
abbrev pub without_declaration : List ℕ → ℕ → Option (List ℕ)
without_declaration text line = if declares_one (line_numbered 1 line (lines text)) then without_lines (10 ∷ []) line (Some (line + 1)) text else None

-- the text in which the rule that begins on this line does nothing
abbrev pub without_rule : List ℕ → ℕ → Option (List ℕ)
without_rule text line = without_lines idle_rule line (end_in (sections_of text) line) text

-- The text in which the fault is masked. There is none if a fault of the sections hides the rest of the text.
abbrev pub without_code : Code → List ℕ → ℕ → Option (List ℕ)
without_code code.TooLong text line = None
without_code code.NoRules text line = None
without_code code.NotClosed text line = None
without_code code.NoForm text line = without_lines (10 ∷ []) line (Some (line + 1)) text
without_code code.Twice text line = without_declaration text line
without_code code.TooMany text line = None
without_code code.NoReading text line = without_rule text line
without_code code.Undefined text line = without_rule text line
without_code code.TooDeep text line = without_rule text line
without_code code.NoCondition text line = without_rule text line
without_code code.NoAction text line = without_rule text line
without_code code.NoNext text line = without_rule text line
without_code code.Memory text line = None

abbrev pub without : List ℕ → SpecFault → Option (List ℕ)
without text fault = without_code fault.code text fault.line
