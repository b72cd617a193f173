use Rattle.std.proofs.Common.{nat_lt, rules}
use Rattle.lx_c.specs.StateCode.{most_singles, single_codes, single_count, test_code}
use Rattle.lx_c.proofs.Texts.{then_2, when_false}
use Rattle.lx_c.proofs.state_code.push_tests.Goals as goal

pub returns : goal.returns
returns c =
    let marked = c.args.marked in
    when_false c.push_test.result (nat_lt most_singles (single_count c.args.code.nul_ends c.args.code.tables.now.machine c.args.state marked)) _ _ _ _ (search rules)
    (then_2 c.push_test.result _ _ _ (single_codes c.args.code.options.now c.args.code.nul_ends c.args.code.tables.now.machine c.args.state marked) (test_code c.args.code.options.now c.args.code.nul_ends c.args.code.tables.now.machine c.args.state marked) c.in_ok-push_singles.ensures c.push_test.ensures)
