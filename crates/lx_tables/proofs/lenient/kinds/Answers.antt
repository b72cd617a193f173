use Rattle.std.proofs.Common.{◌-◌, ◌+◌, ◌∙◌, ◌∷◌, ◌++◌, ℕ, List, [], ap, arith}
use Rattle.std.proofs.lemmas.List.{map-append}
use Rattle.lx_rules.specs.views.Rules.{names_view}
use Rattle.lx_tables.specs.Readers.{read_kind}
use Rattle.lx_tables.proofs.Onto.{onto_more}
use Rattle.lx_tables.proofs.lenient.kinds.Goals as goal

pub loop-preserved : goal.loop-preserved
loop-preserved c =
    onto_more read_kind (names_view c.loop.kinds.items) _ (c.count-many.result.0 - c.loop.counter) (c.count-many.result.0 - (c.loop.counter + 1)) c.loop.rest.now c.kind.result.0.now c.kind.result.1.now
    (ap names_view c.in_ok-push.ensures.items ∙ map-append (λ k. k.items) c.loop.kinds.items (c.in_ok-from_slice.field-0 ∷ [])
    ∙ ap (λ (name : List ℕ). names_view c.loop.kinds.items ++ (name ∷ [])) c.in_ok-from_slice.ensures.items) (omega arith) c.kind.ensures ∙ c.loop.invariant
