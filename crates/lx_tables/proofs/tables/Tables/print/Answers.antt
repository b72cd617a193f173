use Rattle.std.proofs.lemmas.Result.{err_from_is_err_and, on_err_weaker, on_ok_weaker}
use Rattle.std.proofs.Common.{codes}
use Rattle.lx_tables.specs.Lines.{state_line}
use Rattle.lx_tables.specs.Texts.{front_text, count_line, class_line, states_text}
use Rattle.lx_tables.specs.declared.version.Version.TheVariants.{Second}
use Rattle.lx_tables.proofs.Written.{wrote_both, prefix_more, prefix_then}
use Rattle.lx_tables.proofs.tables.Tables.print.Goals as goal

pub returns-in_err-write_bytes-clause-err : goal.returns-in_err-write_bytes-clause-err
returns-in_err-write_bytes-clause-err g c =
    let p = err_from_is_err_and c.from_residual.result c.from_residual.ensures.1 in
    rw p.1 (prefix_more (states_text (state_line Second) c.args.self.now.machine) (prefix_more (class_line c.args.self.now.machine) (prefix_more (count_line (codes "classes ") c.args.self.now.machine.width) (prefix_more (front_text c.args.self.now) c.in_err-write_bytes.ensures.err))))

pub returns-in_err-write_front-clause-err : goal.returns-in_err-write_front-clause-err
returns-in_err-write_front-clause-err g c =
    let p = err_from_is_err_and c.from_residual-in_err-write_front.result c.from_residual-in_err-write_front.ensures.1 in
    rw p.1 (prefix_more (states_text (state_line Second) c.args.self.now.machine) (prefix_more (class_line c.args.self.now.machine) (prefix_more (count_line (codes "classes ") c.args.self.now.machine.width) (prefix_then c.in_ok-write_bytes.ensures.ok c.in_err-write_front.ensures.err))))

pub returns-in_err-write_count-clause-err : goal.returns-in_err-write_count-clause-err
returns-in_err-write_count-clause-err g c =
    let p = err_from_is_err_and c.from_residual-in_err-write_count.result c.from_residual-in_err-write_count.ensures.1 in
    rw p.1 (prefix_more (states_text (state_line Second) c.args.self.now.machine) (prefix_more (class_line c.args.self.now.machine) (prefix_then (wrote_both c.in_ok-write_bytes.ensures.ok c.in_ok-write_front.ensures.ok) (rw (c.from.ensures, c.classes.ensures.count) at c.in_err-write_count.ensures.err))))

pub returns-in_err-write_classes-clause-err : goal.returns-in_err-write_classes-clause-err
returns-in_err-write_classes-clause-err g c =
    let p = err_from_is_err_and c.from_residual-in_err-write_classes.result c.from_residual-in_err-write_classes.ensures.1 in
    rw p.1 (prefix_more (states_text (state_line Second) c.args.self.now.machine) (prefix_then (wrote_both (wrote_both c.in_ok-write_bytes.ensures.ok c.in_ok-write_front.ensures.ok) (rw (c.from.ensures, c.classes.ensures.count) at c.in_ok-write_count.ensures.ok)) c.in_err-write_classes.ensures.err))

pub returns-clause-err : goal.returns-clause-err
returns-clause-err g c = on_err_weaker c.write_states.result (λ h. (prefix_then (wrote_both (wrote_both (wrote_both c.in_ok-write_bytes.ensures.ok c.in_ok-write_front.ensures.ok) (rw (c.from.ensures, c.classes.ensures.count) at c.in_ok-write_count.ensures.ok)) c.in_ok-write_classes.ensures.ok) h)) c.write_states.ensures.err

pub returns-clause-ok : goal.returns-clause-ok
returns-clause-ok g c = on_ok_weaker c.write_states.result (λ h. (wrote_both (wrote_both (wrote_both (wrote_both c.in_ok-write_bytes.ensures.ok c.in_ok-write_front.ensures.ok) (rw (c.from.ensures, c.classes.ensures.count) at c.in_ok-write_count.ensures.ok)) c.in_ok-write_classes.ensures.ok) h)) c.write_states.ensures.ok
