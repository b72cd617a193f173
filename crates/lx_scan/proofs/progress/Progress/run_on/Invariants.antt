use Rattle.std.proofs.Common.{◌≡◌, ◌-◌, ◌≤◌, length}
use Rattle.lx_scan.specs.Streams.{GivesTo, IsOpenMemory, IsProgress, stream_at}
use Rattle.lx_scan.proofs.progress.Progress.run_on.Given as goal

abbrev pub invariant-loop-self : goal.invariant-loop-self
invariant-loop-self l = record {
  progress : IsProgress l.tables l.bytes l.self;
  memory : IsOpenMemory l.tables l.bytes l.fn.self.has_ended l.memory;
  ended : l.self.has_ended ≡ l.fn.self.has_ended;
  gives : GivesTo (stream_at l.tables l.bytes l.fn.self) (stream_at l.tables l.bytes l.self) l.fn.items l.items;
  few : length l.items ≤ l.most;
}

abbrev pub decreases-loop-self : goal.decreases-loop-self
decreases-loop-self l = length l.bytes - l.self.start
