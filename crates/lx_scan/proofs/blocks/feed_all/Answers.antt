use Rattle.std.proofs.Common.{◌++◌, List, ℕ, ap, sym, subst, take, ◌∙◌}
use Rattle.std.specs.Prelude.{flat_map}
use Rattle.std.proofs.lemmas.List.{take_all}
use Rattle.lx_scan.specs.Streams.{Feeds, HasScanned}
use Rattle.lx_scan.proofs.Streaming.{feeds_scanned, front_more, gives_scanned}
use Rattle.lx_scan.proofs.blocks.feed_all.Goals as goal

pub loop-block-preserved : goal.loop-block-preserved
loop-block-preserved c =
    let loop = c.loop-block in
    let feeds = c.in_ok-feed.ensures.ok in
    let gives = c.in_ok-all_items.ensures.gives in
    record {
      table = gives.gives.table ∙ ap (λ s. s.table) feeds.same ∙ loop.invariant.table;
      goes_on = gives.gives.end ∙ ap (λ s. s.has_ended) feeds.same ∙ loop.invariant.goes_on;
      scanned = λ front h.
          let before : List ℕ = front ++ flat_map (λ block. block.items) (take loop.block-index c.args.blocks.now) in
          let block : List ℕ = c.block-item.result.items in
          let fed : Feeds loop.scanner c.feed.new.self block = subst (λ (w : List ℕ). Feeds loop.scanner c.feed.new.self w) c.deref.ensures.value feeds in
          let all : HasScanned c.all_items.new.self (before ++ block) c.all_items.new.items
          = gives_scanned c.feed.new.self c.all_items.new.self (before ++ block) loop.items c.all_items.new.items gives
          (feeds_scanned loop.scanner c.feed.new.self before block loop.items loop.invariant.goes_on fed (loop.invariant.scanned front h)) in
          subst (λ (w : List ℕ). HasScanned c.all_items.new.self w c.all_items.new.items)
          (front_more (λ block. block.items) front c.args.blocks.now loop.block-index c.block-item.result c.loop-block-test.true (sym c.block-item.is)) all;
      drained = λ d. c.in_ok-all_items.ensures.drained;
    }

pub returns-clause-scanned : goal.returns-clause-scanned
returns-clause-scanned c front h =
    let end = c.loop-block-test.false in
    subst (λ blocks. HasScanned c.loop-block.scanner (front ++ flat_map (λ block. block.items) blocks) c.loop-block.items)
    (take_all c.loop-block.block-index c.args.blocks.now end) (c.loop-block.invariant.scanned front h)
