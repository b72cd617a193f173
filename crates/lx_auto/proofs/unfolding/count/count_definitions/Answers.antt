use Rattle.std.proofs.Common.{◌≡◌, ◌∙◌, List, ap, sym, arith, add-one}
use Rattle.std.specs.Cmp.Lexicographic.{same_text}
use Rattle.lx_rules.specs.declared.definition.Definition.{Definition}
use Rattle.lx_auto.specs.CountViews.{counts_behind, counts_at}
use Rattle.lx_auto.proofs.Counting.{counts-first, counts-next, counts-settled}
use Rattle.lx_auto.proofs.unfolding.count.count_definitions.Goals as goal

pub loop-round-init : goal.loop-round-init
loop-round-init c = c.in_ok-counts.ensures ∙ counts-first c.args.names.now.definitions.now

pub returns-then-eq : goal.returns-then-eq
returns-then-eq c =
    let definitions : List Definition = c.args.names.now.definitions.now in
    let next : c.in_ok-next.next.items ≡ counts_behind definitions c.loop-round.counts.items = c.in_ok-next.ensures ∙ ap (counts_behind definitions) c.deref.ensures.value in
    let same : c.in_ok-next.next.items ≡ c.loop-round.counts.items = same_text c.in_ok-next.next.items c.loop-round.counts.items (sym (sym c.eq.ensures ∙ c.if-eq.true)) in
    counts-settled definitions c.loop-round.counts.items c.loop-round._round 31 (omega arith) c.loop-round.invariant (sym next ∙ same)

pub loop-round-preserved : goal.loop-round-preserved
loop-round-preserved c =
    let definitions : List Definition = c.args.names.now.definitions.now in
    c.in_ok-next.ensures ∙ ap (counts_behind definitions) (c.deref.ensures.value ∙ c.loop-round.invariant) ∙ counts-next definitions c.loop-round._round ∙ ap (counts_at definitions) (sym (add-one c.loop-round._round))
