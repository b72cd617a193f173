use Rattle.std.proofs.Common.{◌≡◌, ◌-◌, [], length}
use Rattle.std.specs.Prelude.{IfNone, IfSome}
use Rattle.lx_scan.specs.Cursors.{listed}
use Rattle.lx_scan.specs.Streams.{Gives, IsKept, IsOpenMemory, IsProgress, stream_at}
use Rattle.lx_scan.proofs.progress.Progress.next_item.Given as goal

abbrev pub invariant-loop-item : goal.invariant-loop-item
invariant-loop-item l = record {
  progress : IsProgress l.tables l.bytes l.self;
  memory : IsOpenMemory l.tables l.bytes l.self.has_ended l.memory;
  ended : l.self.has_ended ≡ l.fn.self.has_ended;
  gives : Gives (stream_at l.tables l.bytes l.fn.self) (stream_at l.tables l.bytes l.self) (listed l.item);
  kept : IfSome l.item (λ item. IsKept (stream_at l.tables l.bytes l.self) item);
  none : IfNone l.item ((stream_at l.tables l.bytes l.self).due ≡ []);
}

abbrev pub decreases-loop-item : goal.decreases-loop-item
decreases-loop-item l = length l.bytes - l.self.start
