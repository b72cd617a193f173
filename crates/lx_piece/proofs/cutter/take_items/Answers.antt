use Rattle.std.proofs.Common.{◌++◌, List, ◌∙◌, ap, subst}
use Rattle.lx_scan.specs.Cursors.{items_left, listed}
use Rattle.lx_scan.specs.Ends.{Appends}
use Rattle.lx_scan.specs.declared.item.Item.{Item}
use Rattle.lx_piece.proofs.Cutting.{enough_items, enough_rest, none_ahead}
use Rattle.lx_piece.proofs.cutter.take_items.Goals as goal

pub returns-clause-items : goal.returns-clause-items
returns-clause-items c =
    let left = items_left c.args.tables.now c.args.text.now c.args.cursor.now in
    let behind = items_left c.args.tables.now c.args.text.now c.next_items.new.self in
    let first_is = c.in_ok-push_some.ensures ∙ ap (λ (xs : List Item). xs ++ listed c.args.first) c.requires.none in
    let appends : Appends (listed c.args.first) c.next_items.new.items left behind = subst (λ (xs : List Item). Appends xs c.next_items.new.items left behind) first_is c.in_ok-next_items.ensures.items in
    c.take_further.ensures.items ∙ enough_items (listed c.args.first) c.next_items.new.items left behind c.args.most appends c.in_ok-next_items.ensures.end

pub returns-clause-rest : goal.returns-clause-rest
returns-clause-rest c =
    let left = items_left c.args.tables.now c.args.text.now c.args.cursor.now in
    let behind = items_left c.args.tables.now c.args.text.now c.next_items.new.self in
    let first_is = c.in_ok-push_some.ensures ∙ ap (λ (xs : List Item). xs ++ listed c.args.first) c.requires.none in
    let appends : Appends (listed c.args.first) c.next_items.new.items left behind = subst (λ (xs : List Item). Appends xs c.next_items.new.items left behind) first_is c.in_ok-next_items.ensures.items in
    ap (λ (xs : List Item). xs ++ behind) c.take_further.ensures.behind ∙ enough_rest (listed c.args.first) c.next_items.new.items left behind c.args.most appends c.in_ok-next_items.ensures.end

pub returns-clause-end : goal.returns-clause-end
returns-clause-end c =
    let left = items_left c.args.tables.now c.args.text.now c.args.cursor.now in
    let behind = items_left c.args.tables.now c.args.text.now c.next_items.new.self in
    let first_is = c.in_ok-push_some.ensures ∙ ap (λ (xs : List Item). xs ++ listed c.args.first) c.requires.none in
    let appends : Appends (listed c.args.first) c.next_items.new.items left behind = subst (λ (xs : List Item). Appends xs c.next_items.new.items left behind) first_is c.in_ok-next_items.ensures.items in
    none_ahead c.take_further.result c.next_items.new.items behind _ c.args.most c.take_further.ensures.behind c.in_ok-next_items.ensures.end
    (ap (λ (xs : List Item). xs ++ behind) c.take_further.ensures.behind ∙ enough_rest (listed c.args.first) c.next_items.new.items left behind c.args.most appends c.in_ok-next_items.ensures.end)
