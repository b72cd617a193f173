-- Reasons why a file isn't imported.
use Rattle.std.specs.Prelude.{◌<◌, ⊤, length}
use Rattle.lx_flex.specs.declared.report.ImportFault.{ImportFault}
use Rattle.lx_flex.specs.declared.report.ImportFault.TheVariants.{Refused, Memory}

-- a rejected file has a report
abbrev pub HasReports : ImportFault → Type 0
HasReports (Refused reports) = 0 < length reports.items
HasReports Memory = ⊤
