use Rattle.lx_forms.proofs.JsonRead.{cut_read, item_read}
use Rattle.lx_forms.proofs.json_laws.json_lines_are_objects.Goals as goal

pub returns-clause-items : goal.returns-clause-items
returns-clause-items c = item_read

pub returns-clause-cut : goal.returns-clause-cut
returns-clause-cut c = cut_read
