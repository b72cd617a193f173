use Rattle.std.proofs.Common.{◌≡◌, ◌++◌, List, ℕ, false, take}
use Rattle.std.specs.Prelude.{flat_map}
use Rattle.lx_scan.specs.Streams.{HasScanned, IsDrained}
use Rattle.lx_scan.proofs.blocks.feed_all.Given as goal

abbrev pub invariant-loop-block : goal.invariant-loop-block
invariant-loop-block l = record {
  table : l.scanner.table ≡ l.fn.scanner.table;
  goes_on : l.scanner.has_ended ≡ false;
  scanned : (front : List ℕ) → HasScanned l.fn.scanner front l.fn.items → HasScanned l.scanner (front ++ flat_map (λ block. block.items) (take l.block-index l.blocks)) l.items;
  drained : IsDrained l.fn.scanner → IsDrained l.scanner;
}
