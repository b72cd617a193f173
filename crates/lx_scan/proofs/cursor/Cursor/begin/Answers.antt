use Rattle.std.proofs.Common.{◌∙◌}
use Rattle.lx_scan.proofs.Cursors.{begins}
use Rattle.lx_scan.proofs.cursor.Cursor.begin.Goals as goal

pub returns-clause-items : goal.returns-clause-items
returns-clause-items c = λ table text. c.at.ensures.items table text ∙ rw c.begin.ensures (begins table text)
