use Rattle.lx_c.specs.Scanner.{c_text}
use Rattle.lx_c.proofs.printing.scanner_of.Goals as goal

pub returns : goal.returns
unfolding c_text
returns c = rw (c.new-text.ensures.items, c.first_kind.ensures.number) at c.in_ok-push_scanner.ensures
