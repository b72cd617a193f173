use Rattle.std.proofs.Common.{rules, ◌∙◌}
use Rattle.lx_tables.proofs.TextsRead.{own_first}
use Rattle.lx_tables.proofs.read.is_text_of.Goals as goal

pub returns : goal.returns
returns c = rw (own_first c.args.text.now c.args.tables.now (λ e. c.if-byte_at-eq50.false (c.byte_at.ensures ∙ e))) (search rules)
