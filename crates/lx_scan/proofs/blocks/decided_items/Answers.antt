use Rattle.std.proofs.Common.{◌≡◌, [], List, ap, sym, subst, ◌∙◌}
use Rattle.std.specs.Prelude.{flat_map}
use Rattle.std.proofs.lemmas.Result.{IfOk-weaker}
use Rattle.lx_scan.specs.declared.item.Item.{Item}
use Rattle.lx_scan.specs.Streams.{AreDecided, HasScanned}
use Rattle.lx_scan.proofs.Streaming.{begins_scanned, first_drained}
use Rattle.lx_scan.proofs.blocks.decided_items.Goals as goal

pub returns : goal.returns
returns c =
    let table = c.args.tables.now in
    let facts = c.in_ok-feed_all.ensures in
    let begun : HasScanned c.new-scanner.result [] c.new-items.result = subst (λ (xs : List Item). HasScanned c.new-scanner.result [] xs) (sym c.new-items.ensures) (begins_scanned table c.new-scanner.result c.new-scanner.ensures) in
    IfOk-weaker c.to_vec.result (λ items. items.items ≡ c.feed_all.new.items) (λ items. AreDecided table (flat_map (λ block. block.items) c.args.blocks.now) items.items)
    (λ items is. record {
      s = c.feed_all.new.scanner;
      table_is = facts.table ∙ ap (λ s. s.table) c.new-scanner.ensures;
      goes_on = facts.goes_on;
      scanned = subst (λ (xs : List Item). HasScanned c.feed_all.new.scanner (flat_map (λ block. block.items) c.args.blocks.now) xs) (sym is) (facts.scanned [] begun);
      drained = facts.drained (first_drained table c.new-scanner.result c.new-scanner.ensures);
    }) c.to_vec.ensures
