use Rattle.std.proofs.Common.{◌≡◌, take}
use Rattle.lx_auto.specs.RuleLists.{plain_lists}
use Rattle.lx_auto.proofs.list_numbers.copy_lists.Given as goal

abbrev pub invariant-loop-list : goal.invariant-loop-list
invariant-loop-list l = l.copied ≡ plain_lists (take l.list-index l.lists)
