use Rattle.lx_scan.proofs.Placing.{items_placed}
use Rattle.lx_scan.proofs.lines.items_have_their_lines.Goals as goal

pub returns : goal.returns
returns c = items_placed
