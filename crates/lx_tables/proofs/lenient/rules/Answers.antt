use Rattle.std.proofs.Common.{◌-◌, ◌+◌, ◌∙◌, ◌∷◌, [], ap, arith}
use Rattle.std.proofs.lemmas.List.{map-append}
use Rattle.lx_tables.specs.Readers.{read_rule}
use Rattle.lx_tables.specs.Views.{rule_view, rules_view}
use Rattle.lx_tables.proofs.Onto.{onto_more}
use Rattle.lx_tables.proofs.lenient.rules.Goals as goal

pub loop-preserved : goal.loop-preserved
loop-preserved c =
    onto_more read_rule (rules_view c.loop.rules.items) _ (c.count-many.result.0 - c.loop.counter) (c.count-many.result.0 - (c.loop.counter + 1)) c.loop.rest.now (rule_view c.in_ok-next.next) c.in_ok-next.more.now
    (ap rules_view c.in_ok-push.ensures.items ∙ map-append rule_view c.loop.rules.items (c.in_ok-next.next ∷ [])) (omega arith) c.in_ok-next.ensures ∙ c.loop.invariant
