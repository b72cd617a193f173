use Rattle.lx_scan.proofs.SomeChoice.{some_choice}
use Rattle.lx_scan.proofs.SomeItems.{some_items}
use Rattle.lx_scan.proofs.ruling.some_list_of_items.Goals as goal

pub returns-clause-choice : goal.returns-clause-choice
returns-clause-choice c = some_choice

pub returns-clause-items : goal.returns-clause-items
returns-clause-items c = some_items
