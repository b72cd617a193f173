use Rattle.std.proofs.Common.{◌≡◌, ◌++◌, take}
use Rattle.lx_line.specs.Styles.{lines_by}
use Rattle.lx_line.proofs.lines.push_few.Given as goal

abbrev pub invariant-loop-item : goal.invariant-loop-item
invariant-loop-item g l = l.block.items ≡ l.fn.block.items ++ lines_by (g.L.LineStyle.style l.style) l.plan l.file (take l.item-index l.items)
