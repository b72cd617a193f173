use Rattle.std.proofs.Common.{◌-◌, ◌∙◌, ap, arith}
use Rattle.lx_tables.specs.Readers.{read_step}
use Rattle.lx_tables.proofs.Onto.{steps_more}
use Rattle.lx_tables.proofs.lenient.steps.Goals as goal

pub loop-left-preserved : goal.loop-left-preserved
loop-left-preserved c =
    steps_more c.loop-left.steps.items _ c.loop-left.left (c.loop-left.left - 1) c.loop-left.rest.now c.step-next.result.0 c.step-next.result.1.now
    c.in_ok-push.ensures.items (omega arith) (omega arith) (c.step-next.ensures ∙ ap read_step c.skip.ensures) ∙ c.loop-left.invariant
