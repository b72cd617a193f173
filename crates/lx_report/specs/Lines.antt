-- Findings as lines, in the form of C's compilers.
use Rattle.std.specs.Prelude.{ℕ, ◌-◌, ◌==◌, Bool, true, false, nat_lt, if◌then◌else◌, List, [], ◌++◌, codes, decimal, length, take, drop}
use Rattle.std.specs.List.{flat_map}
use Rattle.lx_report.specs.Bytes.{shown_byte, source_byte, times}
use Rattle.lx_report.specs.declared.finding.ReportPlace.{ReportPlace}
use Rattle.lx_report.specs.declared.finding.Severity.{Severity}
use Rattle.lx_report.specs.declared.finding.Severity.TheVariants.{Error, Warning, Note}

-- bytes as they are shown
abbrev pub shown : List ℕ → List ℕ
shown bytes = flat_map shown_byte bytes

abbrev pub column_text : ℕ → List ℕ
column_text column = if column == 0 then [] else codes ":" ++ decimal column

-- `:LINE:COLUMN`, or the known part of it
abbrev pub place_text : ReportPlace → List ℕ
place_text place =
    if place.line == 0 then []
    else codes ":" ++ (decimal place.line ++ column_text place.column)

abbrev pub severity_text : Severity → List ℕ
severity_text Error = codes ": error: "
severity_text Warning = codes ": warning: "
severity_text Note = codes ": note: "

-- the code of an error
abbrev pub code_text : List ℕ → List ℕ
code_text code = if length code == 0 then [] else shown code ++ codes ": "

-- the name of a warning
abbrev pub tag_text : Severity → List ℕ → List ℕ
tag_text Error name = []
tag_text Warning name = codes " [" ++ (shown name ++ codes "]")
tag_text Note name = []

-- its place and its severity
abbrev pub head_text : List ℕ → ReportPlace → Severity → List ℕ
head_text file place severity = shown file ++ (place_text place ++ severity_text severity)

-- its message
abbrev pub said_text : Severity → List ℕ → List ℕ → List ℕ → List ℕ
said_text severity code words name = code_text code ++ (shown words ++ (tag_text severity name ++ codes "\n"))

-- a finding in a line
abbrev pub finding_line : List ℕ → Severity → ReportPlace → List ℕ → List ℕ → List ℕ → List ℕ
finding_line file severity place code words name = head_text file place severity ++ said_text severity code words name

-- ---- the line of the source, with a mark below the place

-- the greatest numbers of bytes of a line that are shown: before the place, and in all
abbrev pub most_before : ℕ
most_before = 50

abbrev pub most_shown : ℕ
most_shown = 100

-- the number of bytes at the line's begin that are not shown
abbrev pub hidden : ℕ → ℕ
hidden column = column - 1 - most_before

-- the part of the line that is shown, and its bytes before the place
abbrev pub part : ℕ → List ℕ → List ℕ
part column line = take most_shown (drop (hidden column) line)

abbrev pub before : ℕ → List ℕ → List ℕ
before column line = take (column - 1 - hidden column) (part column line)

abbrev pub source : List ℕ → List ℕ
source bytes = flat_map source_byte bytes

-- the sign that a part of the line is left out
abbrev pub cut : Bool → List ℕ
cut false = []
cut true = codes "..."

-- bytes before the part are left out, or bytes after it
abbrev pub is_cut_before : ℕ → Bool
is_cut_before column = nat_lt 0 (hidden column)

abbrev pub is_cut_behind : ℕ → List ℕ → Bool
is_cut_behind column line = nat_lt most_shown (length line - hidden column)

-- the printed text of a line before the place
abbrev pub printed_before : ℕ → List ℕ → List ℕ
printed_before column line = cut (is_cut_before column) ++ source (before column line)

-- the printed text of a line
abbrev pub printed : ℕ → List ℕ → List ℕ
printed column line = cut (is_cut_before column) ++ (source (part column line) ++ cut (is_cut_behind column line))

-- the line, with its number before it
abbrev pub source_line : ℕ → ℕ → List ℕ → List ℕ
source_line number column line = codes "    " ++ (decimal number ++ (codes " | " ++ (printed column line ++ codes "\n")))

-- blanks as wide as the text before a line
abbrev pub margin : ℕ → List ℕ
margin number = codes "    " ++ (times 32 (length (decimal number)) ++ codes " | ")

-- the mark, after a number of columns, and of this width
abbrev pub mark : ℕ → ℕ → List ℕ
mark before width = times 32 before ++ (codes "^" ++ (times 126 (width - 1) ++ codes "\n"))

-- the line, and the mark below it
abbrev pub marked : ℕ → ℕ → ℕ → List ℕ → List ℕ
marked number column width line = source_line number column line ++ (margin number ++ mark (length (printed_before column line)) width)
