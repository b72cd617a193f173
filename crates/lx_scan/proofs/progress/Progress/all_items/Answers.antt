use Rattle.std.proofs.Common.{Bool, subst, ◌∙◌}
use Rattle.lx_scan.specs.Streams.{IsOpenMemory, stream_at}
use Rattle.lx_scan.proofs.Streaming.{fewer_left, gives_to, kept_few}
use Rattle.lx_scan.proofs.progress.Progress.all_items.Goals as goal

pub further-smaller : goal.further-smaller
further-smaller c =
    let table = c.args.tables.now in
    let bytes = c.args.bytes.now in
    let at = c.args.self.now in
    fewer_left (stream_at table bytes at) (stream_at table bytes c.further.self) (stream_at table bytes c.next_item.new.self) c.args.items.now c.further.items
    (kept_few table bytes at.start at.cursor at.walk.read at.walk.state.0 at.walk.found.last at.has_ended c.requires.progress.parts) c.further.invariant.gives c.in-Some.item c.in-Some.ensures.gives

pub further-preserved : goal.further-preserved
further-preserved c = record {
  progress = c.next_item.ensures.progress;
  memory = subst (λ (ended : Bool). IsOpenMemory c.args.tables.now c.args.bytes.now ended c.next_item.new.memory) c.further.invariant.ended c.next_item.ensures.memory;
  ended = c.next_item.ensures.gives.end ∙ c.further.invariant.ended;
  gives = gives_to (stream_at c.args.tables.now c.args.bytes.now c.args.self.now) (stream_at c.args.tables.now c.args.bytes.now c.further.self)
      (stream_at c.args.tables.now c.args.bytes.now c.next_item.new.self) c.args.items.now c.further.items c.push.new.self c.in-Some.item
      c.further.invariant.gives c.in-Some.ensures.gives c.in-Some.ensures.kept c.in_ok-push.ensures;
}
