use Rattle.std.proofs.Common.{Bool, subst, sym, ◌∙◌}
use Rattle.lx_scan.specs.Cursors.{listed}
use Rattle.lx_scan.specs.Streams.{IsOpenMemory, stream_at}
use Rattle.lx_scan.proofs.Streaming.{gives_on}
use Rattle.lx_scan.proofs.progress.Progress.next_item.Goals as goal

pub loop-item-preserved : goal.loop-item-preserved
loop-item-preserved c =
    let table = c.args.tables.now in
    let bytes = c.args.bytes.now in
    let next = c.next_due-item-in-loop-item in
    let found = c.find_match in
    record {
      progress = next.ensures.progress;
      memory = subst (λ (ended : Bool). IsOpenMemory table bytes ended found.new.memory) (sym (next.ensures.gives.end ∙ found.ensures.gives.end)) found.ensures.memory;
      ended = next.ensures.gives.end ∙ found.ensures.gives.end ∙ c.loop-item.invariant.ended;
      gives = gives_on (stream_at table bytes c.args.self.now) (stream_at table bytes c.loop-item.self) (stream_at table bytes found.new.self) (stream_at table bytes next.new.self)
          c.loop-item.item (listed next.result) c.loop-item-test.ensures c.loop-item.invariant.gives found.ensures.gives next.ensures.gives;
      kept = next.ensures.kept;
      none = next.ensures.none;
    }
