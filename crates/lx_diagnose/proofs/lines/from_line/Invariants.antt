use Rattle.std.proofs.Common.{◌≡◌, ◌-◌}
use Rattle.lx_diagnose.specs.Places as specs
use Rattle.lx_diagnose.proofs.lines.from_line.Given as goal

abbrev pub invariant-loop : goal.invariant-loop
invariant-loop l = specs.behind_lines (l.line - l.counter) l.rest ≡ specs.behind_lines (l.line - 1) l.fn.text
