use Rattle.std.proofs.Common.{◌≡◌, ◌+◌, ◌-◌, ◌<◌, ◌++◌, ℕ, List, false, ap, arith, drop, length, subst, sym, ◌∙◌}
use Rattle.std.proofs.lemmas.List.{length-drop}
use Rattle.lx_scan.specs.Streams.{Feeds, IsOpenMemory, Stream, stream_of}
use Rattle.lx_scan.proofs.Streaming.{feed_feeds, feed_parts, feed_silent}
use Rattle.lx_scan.proofs.Walking.{memory_more}
use Rattle.lx_scan.proofs.block_scanner.BlockScanner.feed.Goals as goal

few : (c : goal.After-self-1) → c.self.inside.progress.cursor.place.offset + (length (drop c.self.inside.progress.start c.self.inside.bytes.items) + length c.args.block.now) + 1 < 18446744073709551616
few c = let small = c.if-block-self.false in let len = c.len.ensures in omega (arith, length-drop c.self.inside.progress.start c.self.inside.bytes.items)

new_is : (c : goal.After-self-1) → c.remove_front-removed.new.bytes.items ≡ drop c.remove_front-removed.result (c.self.inside.bytes.items ++ c.args.block.now)
new_is c = c.remove_front-removed.ensures.bytes ∙ ap (λ (xs : List ℕ). drop c.remove_front-removed.result xs) c.in_ok-extend_from_slice.ensures.items

pub invariant_of-self-2 : goal.invariant_of-self-2
invariant_of-self-2 c =
    let fields = c.self.inside in
    let table = fields.tables.value in
    let at = fields.progress in
    let progress = c.self.invariant.0 in
    let removed = c.remove_front-removed in
    let going : at.has_ended ≡ false = ap (λ (s : Stream). s.has_ended) c.self.view_is ∙ c.requires in
    let more : IsOpenMemory table c.extend_from_slice.new.self.items at.has_ended fields.memory
    = subst (λ (bytes : List ℕ). IsOpenMemory table bytes at.has_ended fields.memory) (sym c.in_ok-extend_from_slice.ensures.items)
    (memory_more table fields.bytes.items c.args.block.now fields.memory at.has_ended going c.self.invariant.1) in (
      record {
        parts = feed_parts table fields.bytes.items c.args.block.now at.start at.cursor at.walk.read at.walk.state.0 at.walk.found.last progress.parts (few c) removed.result removed.ensures.few removed.new.bytes.items (new_is c);
        silent = feed_silent table fields.bytes.items c.args.block.now at.start at.cursor at.walk.read at.walk.state.0 at.walk.found.last progress.parts (few c) removed.result removed.ensures.few removed.new.bytes.items (new_is c)
            at.walk.found.since at.walk.found.state.0 progress.silent;
      },
      removed.ensures.memory table at.has_ended more,
    )

pub returns-clause-ok : goal.returns-clause-ok
returns-clause-ok c =
    let fields = c.self.inside in
    let at = fields.progress in
    subst (λ (s : Stream). Feeds s (stream_of fields.tables.value c.remove_front-removed.new.bytes.items (at.start - c.remove_front-removed.result) at.cursor at.has_ended) c.args.block.now) c.self.view_is
    (feed_feeds fields.tables.value fields.bytes.items c.args.block.now at.start at.cursor at.walk.read at.walk.state.0 at.walk.found.last c.self.invariant.0.parts (few c) c.remove_front-removed.result
    c.remove_front-removed.ensures.few c.remove_front-removed.new.bytes.items (new_is c) at.has_ended)
