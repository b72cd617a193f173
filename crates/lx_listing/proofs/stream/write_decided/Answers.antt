use Rattle.std.proofs.Common.{◌≡◌, ◌++◌, true, false, [], List, length, nat_eq, refl, sym, ◌∙◌, ap, subst, arith}
use Rattle.std.specs.Prelude.{All}
use Rattle.std.proofs.lemmas.Bool.{eqb-true}
use Rattle.lx_scan.specs.declared.item.Item.{Item}
use Rattle.lx_scan.specs.ItemParts.{NamesKindAmong}
use Rattle.lx_scan.specs.Streams.{Gives, IsFedOf}
use Rattle.lx_scan.proofs.Streaming.{fed_ahead, text_ahead}
use Rattle.lx_piece.specs.Plans.{kinds_of}
use Rattle.lx_line.specs.Styles.{Drafted}
use Rattle.lx_listing.specs.Gathered.{Gathers}
use Rattle.lx_listing.specs.Lines.{lines_by}
use Rattle.lx_listing.proofs.FileLines.{not_full}
use Rattle.lx_listing.proofs.Streaming.{few_kept, fewer_items, given_named, lists_more, lists_none, scanning_more}
use Rattle.lx_listing.proofs.stream.write_decided.Goals as goal

pub further-init : goal.further-init
further-init g c = record {
  draft = refl;
  scanning = c.requires.scanning;
  end = refl;
  lists = lists_none g.S.LineSink.wrote g.met.S.LineSink.wrote_nothing g.met.S.LineSink.wrote_on (g.L.LineStyle.style c.args.draft.now.style) c.args.file c.args.scanner.now c.args.sink.now;
  over = λ no. absurd (let n : true ≡ false = no in cc);
  drained = λ no. absurd (let n : true ≡ false = no in cc);
}

pub write_kept-requires-clause-named : goal.write_kept-requires-clause-named
write_kept-requires-clause-named g c =
    let old = c.further.scanner in
    let new = c.next_items.new.self in
    let to = c.in-Ok.ensures.gives in
    let items : c.next_items.new.items ≡ to.given = to.after_is ∙ ap (λ (xs : List Item). xs ++ to.given) c.clear.ensures in
    let gives : Gives old new c.next_items.new.items = subst (λ (xs : List Item). Gives old new xs) (sym items) to.gives in
    subst (λ (xs : List Item). All (NamesKindAmong (kinds_of c.args.plan.now)) xs) (sym c.as_slice.ensures)
    (given_named c.args.plan.now.table old new c.next_items.new.items c.items_have_their_lines.ensures c.plans_are_well_formed.ensures.table c.further.invariant.scanning gives)

pub returns-in_err-write_kept-clause-scanning : goal.returns-in_err-write_kept-clause-scanning
returns-in_err-write_kept-clause-scanning g c =
    let to = c.in-Ok.ensures.gives in
    scanning_more c.args.plan.now.table c.further.scanner c.next_items.new.self to.given to.gives c.further.invariant.scanning

pub further-smaller : goal.further-smaller
further-smaller g c =
    let old = c.further.scanner in
    let new = c.next_items.new.self in
    let start = c.args.scanner.now in
    let to = c.in-Ok.ensures.gives in
    let items : c.next_items.new.items ≡ to.given = to.after_is ∙ ap (λ (xs : List Item). xs ++ to.given) c.clear.ensures in
    let scanned = c.requires.scanning.scanned in
    let few = few_kept start (c.requires.scanning.front ++ []) [] (scanned.fed [] (λ ended. refl)) in
    let fed : IsFedOf old (text_ahead start) [] = c.further.invariant.lists.gives.fed (text_ahead start) [] (fed_ahead start few) in
    rw c.further-test.true (fewer_items old new (text_ahead start) to.given (nat_eq c.len-is_full.result 1024) c.len-is_full.result 1024 to.gives fed (omega arith) (c.len-is_full.ensures ∙ ap length items) (eqb-true c.len-is_full.result 1024))

pub further-preserved : goal.further-preserved
further-preserved g c =
    let old = c.further.scanner in
    let new = c.next_items.new.self in
    let to = c.in-Ok.ensures.gives in
    let items : c.next_items.new.items ≡ to.given = to.after_is ∙ ap (λ (xs : List Item). xs ++ to.given) c.clear.ensures in
    let gives : Gives old new c.next_items.new.items = subst (λ (xs : List Item). Gives old new xs) (sym items) to.gives in
    let style = g.L.LineStyle.style c.args.draft.now.style in
    record {
      draft = c.write_kept.ensures.draft ∙ c.further.invariant.draft;
      scanning = scanning_more c.args.plan.now.table old new to.given to.gives c.further.invariant.scanning;
      end = to.gives.end ∙ c.further.invariant.end;
      lists = lists_more g.S.LineSink.wrote g.met.S.LineSink.wrote_nothing g.met.S.LineSink.wrote_on style c.args.file c.args.plan.now.table c.args.scanner.now old new c.args.sink.now c.further.sink c.write_kept.new.sink c.next_items.new.items c.further.invariant.lists gives c.requires.scanning.table_is
          (λ whole rest e fed. subst (λ (xs : List Item). Gathers g.S.LineSink.wrote c.further.sink (lines_by style whole c.args.file xs) c.write_kept.new.sink) c.as_slice.ensures
          (subst (λ (d : Drafted _). Gathers g.S.LineSink.wrote c.further.sink (lines_by (g.L.LineStyle.style d.style) whole c.args.file c.as_slice.result.now) c.write_kept.new.sink) c.further.invariant.draft (c.in_ok-write_kept.ensures.lines whole rest e fed)));
      over = λ part. c.in-Ok.ensures.over (not_full c.len-is_full.result (length c.next_items.new.items) 1024 c.len-is_full.ensures c.in-Ok.ensures.most part);
      drained = λ part. c.in-Ok.ensures.drained (not_full c.len-is_full.result (length c.next_items.new.items) 1024 c.len-is_full.ensures c.in-Ok.ensures.most part);
    }
