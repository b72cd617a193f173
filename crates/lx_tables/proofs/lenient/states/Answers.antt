use Rattle.std.proofs.Common.{◌-◌, ◌+◌, ◌∙◌, map, arith}
use Rattle.lx_automaton.specs.EncodedOptions.{decoded_option}
use Rattle.lx_tables.proofs.Onto.{lines_more}
use Rattle.lx_tables.proofs.lenient.states.Goals as goal

pub loop-preserved : goal.loop-preserved
loop-preserved c =
    lines_more c.args.version c.args.width (map decoded_option c.loop.accepted.items) (map decoded_option c.loop.targets.items) _ _ (c.count-many.result.0 - c.loop.counter) (c.count-many.result.0 - (c.loop.counter + 1))
    c.loop.rest.now _ (omega arith) c.in_ok-rest.ensures ∙ c.loop.invariant
