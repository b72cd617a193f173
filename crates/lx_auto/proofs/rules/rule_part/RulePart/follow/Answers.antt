use Rattle.std.proofs.Common.{◌≡◌, ◌∷◌, [], ℕ, length, map, sym, ◌∙◌, ap, ap₂, arith, subst}
use Rattle.std.specs.Prelude.{reverse}
use Rattle.lx_auto.specs.NodeViews.{nodes_view}
use Rattle.lx_auto.specs.Marking.{flag, ends_from, reads_from}
use Rattle.lx_auto.specs.Blocks.{AreBlocks, HaveEnds, last_flag}
use Rattle.lx_auto.proofs.RuleBlocks.{rule_ended, rule_reads}
use Rattle.lx_auto.proofs.rules.rule_part.RulePart.follow.Goals as goal

pub returns-clause-ended : goal.returns-clause-ended
returns-clause-ended c = λ r is.
    let part = c.args.self.now in
    let marks = c.args.marks.now in
    let flags = c.deref-2.result.now in
    let ends = c.as_slice-ends.result.now in
    let own = c.in_ok-at_nodes.at_nodes.items in
    let have = subst (λ l. HaveEnds marks l own (length l)) c.as_slice-blocks.ensures.value c.in_ok-at_nodes.ensures in
    let tell = c.deref-2.ensures.value ∙ c.in_ok-at_blocks.ensures ∙ ap (λ l. map last_flag l) c.deref.ensures.value in
    let to = c.as_slice-ends.ensures.value ∙ c.in_ok-at_outline.ensures
    ∙ ap₂ (λ x y. ends_from x flags 0 (nodes_view y) []) c.as_slice-nulls.ensures.value c.as_slice-outline.ensures.value in
    let same = c.flag.ensures ∙ ap (λ i. flag ends i) c.saturating_sub.ensures in
    let means = rule_ended part r marks flags ends own is have tell to in
    ((λ x. means.0 (sym same ∙ x)), (λ x. same ∙ means.1 x))

pub returns-clause-reads : goal.returns-clause-reads
returns-clause-reads c = λ r is room clear.
    let part = c.args.self.now in
    let marks = c.args.marks.now in
    let flags = c.deref-2.result.now in
    let ends = c.as_slice-ends.result.now in
    let own = c.in_ok-at_nodes.at_nodes.items in
    let blocks = c.as_slice-blocks.ensures.value in
    let have = subst (λ l. HaveEnds marks l own (length l)) blocks c.in_ok-at_nodes.ensures in
    let tell = c.deref-2.ensures.value ∙ c.in_ok-at_blocks.ensures ∙ ap (λ l. map last_flag l) c.deref.ensures.value in
    let to = c.as_slice-ends.ensures.value ∙ c.in_ok-at_outline.ensures
    ∙ ap₂ (λ x y. ends_from x flags 0 (nodes_view y) []) c.as_slice-nulls.ensures.value c.as_slice-outline.ensures.value in
    let first = c.in_ok-enters.enters.items in
    let count : length c.as_slice-blocks.result.now ≡ length part.blocks.items = ap length blocks in
    let long : length first ≡ length part.blocks.items =
    (let len = c.in_ok-enters.ensures.len in let ok = c.in_ok-enters.enters.ok.0 in omega arith) in
    let enter = c.deref-4.ensures.value ∙ c.in_ok-mark_entered.ensures.set
    ∙ ap₂ (λ x y. reads_from x ends (reverse (nodes_view y)) (c.args.entered ∷ []) (length c.as_slice-blocks.result.now) first) c.as_slice-nulls.ensures.value
    c.as_slice-outline.ensures.value
    ∙ ap (λ (n : ℕ). reads_from part.nulls.items ends (reverse (nodes_view part.outline.items)) (c.args.entered ∷ []) n first) count in
    rule_reads part r marks flags ends own is have tell to c.args.entered first c.deref-4.result.now c.args.reads.now.items c.read_blocks.new.reads.items long
    enter
    (λ es k are bare. c.in_ok-read_blocks.ensures.set es k (subst (λ l. AreBlocks l es k) (sym blocks) are)
    (subst (λ l. HaveEnds marks c.as_slice-blocks.result.now l (length c.as_slice-blocks.result.now)) (sym c.deref-3.ensures.value) c.in_ok-at_nodes.ensures) bare)
    room clear
