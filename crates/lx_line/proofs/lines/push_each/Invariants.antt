use Rattle.std.proofs.Common.{◌≡◌, ◌++◌, take}
use Rattle.lx_line.specs.Lines.{lines_of}
use Rattle.lx_line.proofs.lines.push_each.Given as goal

abbrev pub invariant-loop-item : goal.invariant-loop-item
invariant-loop-item l = l.block.items ≡ l.fn.block.items ++ lines_of l.plan l.file (take l.item-index l.items)
