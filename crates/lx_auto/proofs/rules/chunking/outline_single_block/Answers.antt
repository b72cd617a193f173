use Rattle.std.proofs.Common.{◌++◌, ◌∷◌, [], ◌∙◌, ap}
use Rattle.lx_auto.specs.Chunks.{block_nodes}
use Rattle.lx_auto.proofs.Chunked.{outlined_single_block}
use Rattle.lx_auto.proofs.rules.chunking.outline_single_block.Goals as goal

pub returns : goal.returns
returns c = λ e is.
    outlined_single_block c.args.block (record { outline = c.in_ok-outline.outline; blocks = c.push.new.self }) c.args.block.placeholder_set.now e is c.in_ok-outline.ensures
    (ap block_nodes (c.in_ok-push.ensures.items ∙ ap (λ l. l ++ c.args.block.nodes ∷ []) c.new-blocks.ensures.items))
