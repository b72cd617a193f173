use Rattle.std.proofs.Common.{◌≡◌, None, Some, append-nil, false, nat_eq, rules, sym}
use Rattle.std.specs.Prelude.{◌==◌}
use Rattle.std.specs.Option.{option_eq}
use Rattle.lx_c.specs.StateCode.{group_count, other_target}
use Rattle.lx_c.proofs.state_code.push_case.Goals as goal

pub returns-else-group_count-eq0 : goal.returns-else-group_count-eq0
returns-else-group_count-eq0 c =
    let leads : other_target c.args.code.nul_ends c.args.code.tables.now.machine c.args.state None c.args.byte ≡ Some c.in-Some.target = search rules in
    let other : option_eq nat_eq c.args.main (Some c.in-Some.target) ≡ false = search rules in
    let later : (group_count c.args.code.nul_ends c.args.code.tables.now.machine c.args.state (Some c.in-Some.target) c.args.byte == 0) ≡ false = search rules in
    rw leads (rw other (rw later (sym (append-nil c.args.text.now.items))))
