use Rattle.lx_scan.proofs.OneList.{items_one}
use Rattle.lx_scan.proofs.ruling.one_list_of_items.Goals as goal

pub returns : goal.returns
returns c = items_one
