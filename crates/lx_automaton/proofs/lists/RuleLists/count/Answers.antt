use Rattle.std.proofs.Common.{◌≡◌, length, ap, arith}
use Rattle.lx_automaton.specs.Lists.{lists_from}
use Rattle.lx_automaton.proofs.KeptLists.{count_of_lists}
use Rattle.lx_automaton.proofs.lists.RuleLists.count.Goals as goal

pub returns : goal.returns
returns c =
    let fields = c.self.inside in
    let held = fields.ends.ok.0 in
    let count = count_of_lists fields.rules.items 0 fields.ends.items in
    let view : length (lists_from fields.rules.items 0 fields.ends.items) ≡ length c.args.self.now = ap length c.self.view_is in
    omega (arith, c.len.ensures)
