use Rattle.std.proofs.Common.{refl, subst}
use Rattle.lx_auto.specs.Chunks.{binary_expression, IsGrowingChunkOf}
use Rattle.lx_auto.specs.declared.rules.chunk.GrowingChunk.{GrowingChunk}
use Rattle.lx_auto.proofs.Chunked.{growing_prepended}
use Rattle.lx_auto.proofs.rules.chunking.prepend_to_growing.Goals as goal

pub returns : goal.returns
returns c = λ a b first is.
    let old = c.args.right in
    let new : GrowingChunk = record { operator = old.operator; first = c.in_ok-first.first; rest = old.rest } in
    subst (λ p. IsGrowingChunkOf new (binary_expression p a b)) (c.are_same.ensures c.if-not-are_same.false)
    (growing_prepended old new c.args.left a b is first refl refl (λ d h. c.in_ok-first.ensures a d first h))
