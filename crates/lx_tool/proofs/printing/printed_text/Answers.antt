use Rattle.lx_tool.proofs.printing.printed_text.Goals as goal

pub returns-then-words : goal.returns-then-words
returns-then-words c = rw c.if-words.true c.scanner_of.ensures
