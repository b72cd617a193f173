use Rattle.std.proofs.Common.{false}
use Rattle.lx_flex_pattern.proofs.sets.period_set.Goals as goal

pub returns-then-dot_all : goal.returns-then-dot_all
returns-then-dot_all c = rw c.if-dot_all.true (c.complement.ensures.tested (λ _. false) c.empty.ensures)
