use Rattle.std.proofs.Common.{codes, true}
use Rattle.lx_c.proofs.Texts.{then_6}
use Rattle.lx_c.specs.Options.{yy_options}
use Rattle.lx_c.specs.StateCode.{state_codes}
use Rattle.lx_lex.specs.StateCode.{resume_codes, start_codes, states_text}
use Rattle.lx_lex.specs.declared.skeleton_states.TheConstants.{RESUME}
use Rattle.lx_lex.proofs.state_code.push_all_states.Goals as goal

pub returns : goal.returns
unfolding states_text
returns c =
    let m = c.args.tables.now.machine in
    then_6 c.push-3.result _ _ _ _ _ _ _ (start_codes m) (codes "        }\n") (state_codes yy_options true m) RESUME.now (resume_codes m) (codes "        }\n")
    c.in_ok-push_starts.ensures c.in_ok-push.ensures (rw (c.new.ensures.options, c.new.ensures.tables, c.new.ensures.end, c.requires) at c.in_ok-push_state_codes.ensures) c.in_ok-push-2.ensures c.in_ok-push_resumes.ensures c.push-3.ensures
