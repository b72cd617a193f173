use Rattle.lx_scan.proofs.ByRuns.{items_by_rules}
use Rattle.lx_scan.proofs.ruling.items_are_by_rules.Goals as goal

pub returns : goal.returns
returns c = λ spec table text is of bytes. items_by_rules spec table is of text bytes
