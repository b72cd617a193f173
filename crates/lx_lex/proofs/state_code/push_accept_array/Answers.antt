use Rattle.std.proofs.Common.{codes, length}
use Rattle.lx_c.proofs.Texts.{then_3}
use Rattle.lx_lex.specs.Arrays.{head_text}
use Rattle.lx_lex.specs.StateCode.{accept_entries}
use Rattle.lx_lex.proofs.state_code.push_accept_array.Goals as goal

pub returns : goal.returns
returns c =
    let table = c.args.tables.now in
    then_3 c.push.result _ _ _ _ (head_text (length table.rules) (codes "yy_accept[] = {\n")) (accept_entries table.machine) (codes "0};\n")
    (rw (c.from.ensures, c.rules.ensures.count) at c.in_ok-push_head.ensures) c.in_ok-push_accept_entries.ensures c.push.ensures
