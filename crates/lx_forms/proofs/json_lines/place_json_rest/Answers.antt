use Rattle.lx_line.proofs.Places.{Placed-then}
use Rattle.lx_forms.proofs.json_lines.place_json_rest.Goals as goal

pub returns-clause-placed : goal.returns-clause-placed
returns-clause-placed c = Placed-then c.place_numbers-at.ensures.placed (Placed-then c.place_printed-at.ensures.placed c.place_4.ensures)
