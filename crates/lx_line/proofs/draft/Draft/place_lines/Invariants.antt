use Rattle.std.proofs.Common.{◌≡◌, ◌≤◌, ◌++◌, length, take}
use Rattle.lx_line.specs.Prefixes.{ArePrefixesOf}
use Rattle.lx_line.specs.Styles.{lines_at}
use Rattle.lx_line.proofs.draft.Draft.place_lines.Given as goal

abbrev pub invariant-loop-item : goal.invariant-loop-item
invariant-loop-item g l = record {
  prefixes : ArePrefixesOf (g.L.LinePrefix.prefix l.style l.plan l.file) l.self.prefixes;
  count : l.count ≡ l.item-index;
  len : length l.buf ≡ length l.fn.buf;
  within : l.end ≤ length l.buf;
  lines : take l.end l.buf ≡ take l.fn.at l.fn.buf ++ lines_at (g.L.LineStyle.style l.style) l.plan.table l.file l.bytes l.base (take l.item-index l.items);
}
