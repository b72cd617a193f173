use Rattle.std.proofs.Common.{◌≡◌, ◌+◌, ◌<◌, ◌≤◌, length}
use Rattle.lx_rules.specs.Limits.{max_specification_bytes}
use Rattle.lx_spec.specs.Sections as plain
use Rattle.lx_spec.specs.views.Sections.{sections_view}
use Rattle.lx_spec.specs.views.Places.{place_view}
use Rattle.lx_spec.proofs.section.read_sections.Given as goal

abbrev pub invariant-loop-line : goal.invariant-loop-line
invariant-loop-line l = record {
  same : plain.sections_behind (sections_view l.sections) (place_view l.place) l.number l.lines ≡ plain.sections_of l.fn.text;
  counted : 0 < l.number;
  few : l.number + length l.lines ≤ max_specification_bytes + 1;
}

abbrev pub decreases-loop-line : goal.decreases-loop-line
decreases-loop-line l = length l.lines
