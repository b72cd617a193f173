use Rattle.std.proofs.Common.{◌≡◌, ◌+◌, false, if◌then◌else◌, length}
use Rattle.lx_scan.specs.Streams.{IsDrained, IsOver, left_in}
use Rattle.lx_scan.proofs.Streaming.{text_ahead}
use Rattle.lx_listing.specs.Streamed.{IsScanning, ListsGiven}
use Rattle.lx_listing.proofs.stream.write_decided.Given as goal

abbrev pub invariant-further : goal.invariant-further
invariant-further g l = record {
  draft : l.draft ≡ l.fn.draft;
  scanning : IsScanning l.plan.table l.scanner;
  end : l.scanner.has_ended ≡ l.fn.scanner.has_ended;
  lists : ListsGiven g.S.LineSink.wrote (g.L.LineStyle.style l.fn.draft.style) l.file l.fn.scanner l.fn.sink l.scanner l.sink;
  over : l.is_full ≡ false → IsOver l.scanner;
  drained : l.is_full ≡ false → IsDrained l.scanner;
}

abbrev pub decreases-further : goal.decreases-further
decreases-further g l = length (left_in l.scanner (text_ahead l.fn.scanner)) + (if l.is_full then 1 else 0)
