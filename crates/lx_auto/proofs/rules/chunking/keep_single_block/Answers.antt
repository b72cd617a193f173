use Rattle.std.proofs.Common.{◌≡◌, ◌-◌, length, ◌∙◌, ap, ap₂, arith}
use Rattle.lx_auto.specs.NodeViews.{nodes_view}
use Rattle.lx_auto.specs.Marking.{flag}
use Rattle.lx_auto.proofs.Chunked.{null_single_block}
use Rattle.lx_auto.proofs.rules.chunking.keep_single_block.Goals as goal

pub returns : goal.returns
returns c = λ e n s.
    let nulls = c.in_ok-nulls.nulls.items in
    let last : c.saturating_sub.result ≡ length nulls - 1 =
    (let ok = c.in_ok-nulls.nulls.ok.0 in let l = c.len.ensures in let b = c.saturating_sub.ensures in omega arith) in
    let null = c.flag-nullable.ensures ∙ ap₂ (λ l i. flag l i) c.deref.ensures.value last ∙ null_single_block e (nodes_view c.args.nodes.now) nulls s n c.in_ok-nulls.ensures in
    c.outline_single_block.ensures e (record { nodes = ap nodes_view c.in_ok-own.ensures.items ∙ n; null = null })
