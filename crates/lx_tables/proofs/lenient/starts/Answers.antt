use Rattle.std.proofs.Common.{◌-◌, ◌+◌, ◌∙◌, arith}
use Rattle.lx_tables.specs.Readers.{read_start}
use Rattle.lx_tables.proofs.Onto.{onto_more}
use Rattle.lx_tables.proofs.lenient.starts.Goals as goal

pub loop-preserved : goal.loop-preserved
loop-preserved c =
    onto_more read_start c.loop.starts.items _ (c.count-many.result.0 - c.loop.counter) (c.count-many.result.0 - (c.loop.counter + 1)) c.loop.rest.now c.start.result.0 c.start.result.1.now
    c.in_ok-push.ensures.items (omega arith) c.start.ensures ∙ c.loop.invariant
