use Rattle.lx_c.proofs.Texts.{then_4}
use Rattle.std.proofs.Common.{false}
use Rattle.lx_c.specs.DirectCode.{start_codes}
use Rattle.lx_c.specs.StateCode.{state_codes}
use Rattle.lx_c.specs.Templates.{filled}
use Rattle.lx_c.specs.declared.direct_templates.TheConstants.{AT_LINE_BEGIN, BEGIN_MATCH, BEGIN_STATES}
use Rattle.lx_c.proofs.direct.push_states.Goals as goal

pub returns : goal.returns
returns c =
    let o = c.args.options.now in
    let m = c.args.tables.now.machine in
    then_4 c.push_state_codes.result _ _ _ _ _ (filled o.prefix BEGIN_MATCH.now) (start_codes o AT_LINE_BEGIN.now m) (filled o.prefix BEGIN_STATES.now) (state_codes o false m)
    c.in_ok-push_filled.ensures c.in_ok-push_starts.ensures c.in_ok-push_filled-2.ensures
    (rw (c.new.ensures.options, c.new.ensures.tables, c.new.ensures.end) at c.push_state_codes.ensures)
