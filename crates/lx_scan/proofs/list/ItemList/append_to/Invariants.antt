use Rattle.std.proofs.Common.{◌≡◌, ◌++◌, take}
use Rattle.lx_scan.proofs.list.ItemList.append_to.Given as goal

abbrev pub invariant-loop-item : goal.invariant-loop-item
invariant-loop-item l = l.items.items ≡ l.fn.items.items ++ take l.item-index l.item-items
