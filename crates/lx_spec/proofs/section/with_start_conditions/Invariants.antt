use Rattle.std.proofs.Common.{◌≡◌, length}
use Rattle.lx_spec.specs.Bytes.{words_of}
use Rattle.lx_spec.specs.Sections as plain
use Rattle.lx_spec.specs.views.Sections.{sections_view}
use Rattle.lx_spec.proofs.section.with_start_conditions.Given as goal

abbrev pub invariant-loop-name : goal.invariant-loop-name
invariant-loop-name l = plain.with_start_conditions (sections_view l.sections) l.number l.exclusive (words_of l.rest) ≡ plain.with_start_conditions (sections_view l.fn.sections) l.number l.exclusive (words_of l.names)

abbrev pub decreases-loop-name : goal.decreases-loop-name
decreases-loop-name l = length l.rest
