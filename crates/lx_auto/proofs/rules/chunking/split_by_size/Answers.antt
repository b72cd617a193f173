use Rattle.std.proofs.Common.{inl, inr, [], subst}
use Rattle.std.specs.Prelude.{reverse}
use Rattle.std.proofs.lemmas.Result.{IfOk-weaker}
use Rattle.lx_auto.specs.NodeViews.{nodes_view}
use Rattle.lx_auto.specs.Chunks.{IsOutlinedOf, IsPopped, IsSplitOf, trees_from}
use Rattle.lx_auto.proofs.Chunked.{popped_chunk, popped_none}
use Rattle.lx_auto.proofs.rules.chunking.split_by_size.Goals as goal

pub returns-in-Some : goal.returns-in-Some
returns-in-Some c = λ e n t.
    let nodes = nodes_view c.args.nodes.now in
    let rest = reverse c.pop_chunk.new.chunks.items in
    let popped = subst (λ p. IsPopped (trees_from nodes []) rest p) c.in-Some.is (c.pop_chunk.ensures (trees_from nodes []) c.in_ok-chunks.ensures) in
    let chunk = popped_chunk e nodes rest c.in-Some.chunk n t popped in
    IfOk-weaker c.outline.result (λ o. IsOutlinedOf o e) (λ o. IsSplitOf o e) (λ o h. inr (chunk.0, h)) (c.outline.ensures e chunk.1)

pub returns : goal.returns
returns c = λ e n t.
    let nodes = nodes_view c.args.nodes.now in
    let rest = reverse c.pop_chunk.new.chunks.items in
    let popped = subst (λ p. IsPopped (trees_from nodes []) rest p) c.in-None.is (c.pop_chunk.ensures (trees_from nodes []) c.in_ok-chunks.ensures) in
    inl (popped_none e nodes rest n t popped, c.new.ensures.items, c.new-in-None.ensures.items)
