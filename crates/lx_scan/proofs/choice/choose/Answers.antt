use Rattle.std.proofs.Common.{sym}
use Rattle.lx_scan.proofs.Choosing.{accepted_known}
use Rattle.lx_scan.proofs.choice.choose.Goals as goal

pub len_of_token-requires-clause-rule : goal.len_of_token-requires-clause-rule
len_of_token-requires-clause-rule c = (accepted_known c.args.tables.now c.in_ok-rule.ensures.table c.args.condition c.args.begin c.args.text.now c.in_ok-rule.rule c.in_ok-rule.read (sym c.in_ok-rule.ensures.read)).0

pub len_of_token-requires-clause-some : goal.len_of_token-requires-clause-some
len_of_token-requires-clause-some c = (accepted_known c.args.tables.now c.in_ok-rule.ensures.table c.args.condition c.args.begin c.args.text.now c.in_ok-rule.rule c.in_ok-rule.read (sym c.in_ok-rule.ensures.read)).1
