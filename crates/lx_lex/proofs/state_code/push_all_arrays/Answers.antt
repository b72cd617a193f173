use Rattle.std.proofs.Common.{true}
use Rattle.lx_c.proofs.Texts.{then_3}
use Rattle.lx_c.specs.Options.{yy_options}
use Rattle.lx_c.specs.StateCode.{marks_text}
use Rattle.lx_lex.specs.StateCode.{accept_array, nul_array, state_arrays_text}
use Rattle.lx_lex.proofs.state_code.push_all_arrays.Goals as goal

pub returns : goal.returns
unfolding state_arrays_text
returns c =
    let table = c.args.tables.now in
    then_3 c.push_marks.result _ _ _ _ (accept_array table) (nul_array table) (marks_text yy_options true table.machine)
    c.in_ok-push_accept_array.ensures c.in_ok-push_nul_array.ensures
    (rw (c.new.ensures.options, c.new.ensures.tables, c.new.ensures.end, c.requires) at c.push_marks.ensures)
