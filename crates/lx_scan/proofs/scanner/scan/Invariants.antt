use Rattle.std.proofs.Common.{◌≡◌, ◌+◌, ◌++◌, false, [], if◌then◌else◌, length}
use Rattle.lx_scan.specs.Cursors.{IsInText, items_left}
use Rattle.lx_scan.specs.Failing.{IsMemoryOf}
use Rattle.lx_scan.specs.Items.{items_of}
use Rattle.lx_scan.proofs.scanner.scan.Given as goal

abbrev pub invariant-further : goal.invariant-further
invariant-further l = record {
  in_text : IsInText l.tables l.text l.cursor;
  memory : IsMemoryOf l.tables l.text l.memory;
  items : l.items.items ++ items_left l.tables l.text l.cursor ≡ items_of l.tables l.text;
  end : l.is_full ≡ false → items_left l.tables l.text l.cursor ≡ [];
}

abbrev pub decreases-further : goal.decreases-further
decreases-further l = length (items_left l.tables l.text l.cursor) + (if l.is_full then 1 else 0)
