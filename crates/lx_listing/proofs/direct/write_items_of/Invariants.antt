use Rattle.std.proofs.Common.{◌≡◌, ◌+◌, false, [], if◌then◌else◌, length}
use Rattle.lx_scan.specs.Cursors.{IsInText, items_left}
use Rattle.lx_scan.specs.Failing.{IsMemoryOf}
use Rattle.lx_listing.proofs.FileLines.{HasListed}
use Rattle.lx_listing.proofs.direct.write_items_of.Given as goal

abbrev pub invariant-further : goal.invariant-further
invariant-further g l = record {
  in_text : IsInText l.tables l.text l.cursor;
  memory : IsMemoryOf l.tables l.text l.memory;
  draft : l.draft ≡ l.fn.draft;
  listed : HasListed g.S.LineSink.wrote (g.L.LineStyle.style l.fn.draft.style) l.plan l.file l.fn.sink l.sink (items_left l.tables l.text l.cursor);
  end : l.is_full ≡ false → items_left l.tables l.text l.cursor ≡ [];
}

abbrev pub decreases-further : goal.decreases-further
decreases-further g l = length (items_left l.tables l.text l.cursor) + (if l.is_full then 1 else 0)
