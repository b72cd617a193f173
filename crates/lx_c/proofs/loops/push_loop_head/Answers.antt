use Rattle.std.proofs.Common.{false, nat_lt, rules, true}
use Rattle.lx_c.specs.StateCode.{range_count}
use Rattle.lx_c.proofs.Texts.{then_2, then_3, when_false, when_true}
use Rattle.lx_c.proofs.loops.push_loop_head.Goals as goal

pub returns-then-range_count-lt3 : goal.returns-then-range_count-lt3
returns-then-range_count-lt3 c =
    let few_own = nat_lt (range_count c.args.code.nul_ends c.args.code.tables.now.machine c.args.state true) 3 in
    when_true c.push_ranges.result few_own _ _ _ _ (search rules)
    (then_2 c.push_ranges.result c.args.text.now.items _ c.push_ranges.new.text.items _ _ c.in_ok-push_numbered.ensures c.push_ranges.ensures)

pub returns-then-range_count-lt3-2 : goal.returns-then-range_count-lt3-2
returns-then-range_count-lt3-2 c =
    let few_own = nat_lt (range_count c.args.code.nul_ends c.args.code.tables.now.machine c.args.state true) 3 in
    let few_others = nat_lt (range_count c.args.code.nul_ends c.args.code.tables.now.machine c.args.state false) 3 in
    when_false c.push.result few_own _ _ _ _ (search rules) (when_true c.push.result few_others _ _ _ _ (search rules)
    (then_3 c.push.result c.args.text.now.items _ _ c.push.new.text.items _ _ _ c.in_ok-push_numbered-2.ensures c.in_ok-push_ranges.ensures c.push.ensures))

pub returns : goal.returns
returns c =
    let few_own = nat_lt (range_count c.args.code.nul_ends c.args.code.tables.now.machine c.args.state true) 3 in
    let few_others = nat_lt (range_count c.args.code.nul_ends c.args.code.tables.now.machine c.args.state false) 3 in
    when_false c.push_numbered-2.result few_own _ _ _ _ (search rules) (when_false c.push_numbered-2.result few_others _ _ _ _ (search rules) c.push_numbered-2.ensures)
