use Rattle.std.proofs.Common.{◌≡◌, ◌≤◌, ◌++◌, ◌-◌, length, take}
use Rattle.lx_line.specs.Prefixes.{ArePrefixesOf}
use Rattle.lx_line.specs.Styles.{lines_by}
use Rattle.lx_line.proofs.lines.push_many.Given as goal

abbrev pub invariant-loop-done : goal.invariant-loop-done
invariant-loop-done g l = record {
  within : l.done ≤ length l.items;
  prefixes : ArePrefixesOf (g.L.LinePrefix.prefix l.style l.plan l.file) l.draft.prefixes;
  lines : l.block.items ≡ l.fn.block.items ++ lines_by (g.L.LineStyle.style l.style) l.plan l.file (take l.done l.items);
}

abbrev pub decreases-loop-done : goal.decreases-loop-done
decreases-loop-done g l = length l.items - l.done
