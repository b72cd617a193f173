use Rattle.std.proofs.Common.{◌≡◌, length}
use Rattle.lx_scan.specs.Streams.{GivesTo, IsOpenMemory, IsProgress, left_in, stream_at}
use Rattle.lx_scan.proofs.Streaming.{text_ahead}
use Rattle.lx_scan.proofs.progress.Progress.all_items.Given as goal

abbrev pub invariant-further : goal.invariant-further
invariant-further l = record {
  progress : IsProgress l.tables l.bytes l.self;
  memory : IsOpenMemory l.tables l.bytes l.fn.self.has_ended l.memory;
  ended : l.self.has_ended ≡ l.fn.self.has_ended;
  gives : GivesTo (stream_at l.tables l.bytes l.fn.self) (stream_at l.tables l.bytes l.self) l.fn.items l.items;
}

abbrev pub decreases-further : goal.decreases-further
decreases-further l = length (left_in (stream_at l.tables l.bytes l.self) (text_ahead (stream_at l.tables l.bytes l.fn.self)))
