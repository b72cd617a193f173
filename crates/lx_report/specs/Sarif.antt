-- Findings as SARIF 2.1.0.
use Rattle.std.specs.Prelude.{ℕ, ◌+◌, ◌==◌, ◌&&◌, not, min, max, if◌then◌else◌, List, [], ◌++◌, codes, decimal, length}
use Rattle.std.specs.List.{flat_map}
use Rattle.lx_report.specs.Bytes.{shown_string, uri_byte}
use Rattle.lx_report.specs.Lines.{shown}
use Rattle.lx_report.specs.declared.finding.ReportPlace.{ReportPlace}
use Rattle.lx_report.specs.declared.finding.Severity.{Severity}
use Rattle.lx_report.specs.declared.finding.Severity.TheVariants.{Error, Warning, Note}

-- the text before the results
unfoldable pub schema : List ℕ
schema = codes "{\"$schema\":\"https://json.schemastore.org/sarif-2.1.0.json\",\"version\":\"2.1.0\",\"runs\":[{\"tool\":{\"driver\":{\"name\":\"lx\",\"version\":"

abbrev pub start : List ℕ → List ℕ
start version = schema ++ (shown_string version ++ codes "}},\"results\":[")

-- the text after them
abbrev pub end : List ℕ
end = codes "]}]}\n"

abbrev pub level : Severity → List ℕ
level Error = codes ",\"level\":\"error\""
level Warning = codes ",\"level\":\"warning\""
level Note = codes ",\"level\":\"note\""

-- the code and the name, with a slash between them if both exist
abbrev pub rule : List ℕ → List ℕ → List ℕ
rule code name = shown code ++ ((if not (length code == 0) && not (length name == 0) then codes "/" else []) ++ shown name)

abbrev pub rule_id : List ℕ → List ℕ → List ℕ
rule_id code name = codes "{\"ruleId\":\"" ++ (rule code name ++ codes "\"")

abbrev pub message : List ℕ → List ℕ
message words = codes ",\"message\":{\"text\":" ++ (shown_string words ++ codes "}")

-- the file
abbrev pub artifact : List ℕ → List ℕ
artifact file = codes ",\"locations\":[{\"physicalLocation\":{\"artifactLocation\":{\"uri\":\"" ++ (flat_map uri_byte file ++ codes "\"}")

abbrev pub first_column : ℕ → List ℕ
first_column column = codes ",\"startColumn\":" ++ decimal column

abbrev pub end_column : ℕ → List ℕ
end_column behind = codes ",\"endColumn\":" ++ decimal behind

-- the columns of a region; its end is the column after it
abbrev pub columns : ℕ → ℕ → List ℕ
columns column behind =
    if column == 0 then [] else first_column column ++ end_column behind

-- the greatest number of a column
abbrev pub max_column : ℕ
max_column = 18446744073709551615

-- the column after a place
abbrev pub behind : ReportPlace → ℕ
behind place = min (place.column + max place.width 1) max_column

abbrev pub first_line : ℕ → List ℕ
first_line line = codes ",\"region\":{\"startLine\":" ++ decimal line

abbrev pub known_region : ReportPlace → List ℕ
known_region place = first_line place.line ++ (columns place.column (behind place) ++ codes "}")

abbrev pub region : ReportPlace → List ℕ
region place = if place.line == 0 then [] else known_region place

abbrev pub location : List ℕ → ReportPlace → List ℕ
location file place = artifact file ++ (region place ++ codes "}}]}")

abbrev pub what : Severity → List ℕ → List ℕ → List ℕ → List ℕ
what severity code words name = rule_id code name ++ (level severity ++ message words)

-- a finding as a result
abbrev pub result_text : List ℕ → Severity → ReportPlace → List ℕ → List ℕ → List ℕ → List ℕ
result_text file severity place code words name = what severity code words name ++ location file place
