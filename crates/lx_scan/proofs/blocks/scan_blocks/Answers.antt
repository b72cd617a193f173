use Rattle.std.proofs.Common.{◌≡◌, [], ℕ, List, ap, sym, subst, ◌∙◌}
use Rattle.std.specs.Prelude.{flat_map}
use Rattle.std.proofs.lemmas.Result.{IfOk-weaker}
use Rattle.lx_tables.specs.Model.{Table}
use Rattle.lx_scan.specs.declared.item.Item.{Item}
use Rattle.lx_scan.specs.Items.{items_of}
use Rattle.lx_scan.specs.Streams.{HasScanned}
use Rattle.lx_scan.proofs.Streaming.{all_scanned, begins_scanned, ends_scanned, gives_scanned}
use Rattle.lx_scan.proofs.blocks.scan_blocks.Goals as goal

pub returns : goal.returns
returns c =
    let table = c.args.tables.now in
    let text : List ℕ = flat_map (λ block. block.items) c.args.blocks.now in
    let facts = c.in_ok-feed_all.ensures in
    let fed = c.feed_all.new.scanner in
    let ended = c.end.new.self in
    let all = c.all_items.new.self in
    let begun : HasScanned c.new-scanner.result [] c.new-items.result = subst (λ (xs : List Item). HasScanned c.new-scanner.result [] xs) (sym c.new-items.ensures) (begins_scanned table c.new-scanner.result c.new-scanner.ensures) in
    let gives = c.in_ok-all_items.ensures.gives in
    let scanned : HasScanned all text c.all_items.new.items
    = gives_scanned ended all text c.feed_all.new.items c.all_items.new.items gives (ends_scanned fed ended text c.feed_all.new.items facts.goes_on c.end.ensures (facts.scanned [] begun)) in
    let table_is : all.table ≡ table = gives.gives.table ∙ ap (λ s. s.table) c.end.ensures ∙ facts.table ∙ ap (λ s. s.table) c.new-scanner.ensures in
    IfOk-weaker c.to_vec.result (λ items. items.items ≡ c.all_items.new.items) (λ items. items.items ≡ items_of table text)
    (λ items is. is ∙ all_scanned all text c.all_items.new.items (gives.gives.end ∙ ap (λ s. s.has_ended) c.end.ensures) c.in_ok-all_items.ensures.over scanned ∙ ap (λ (t : Table). items_of t text) table_is) c.to_vec.ensures
