use Rattle.lx_scan.specs.Cursors.{steps_left}
use Rattle.lx_scan.specs.Steps.{items_of_steps}
use Rattle.lx_scan.proofs.Streaming.{due_kept}
use Rattle.lx_scan.proofs.progress.Progress.next_due.Goals as goal

pub returns-clause-kept : goal.returns-clause-kept
returns-clause-kept c =
    let at = c.args.self.now in
    let new = c.next_at_match.new.self in
    due_kept c.args.tables.now c.args.bytes.now at.start at.cursor new at.walk.read at.walk.state.0 at.walk.found.last at.has_ended c.next_at_match.result
    (items_of_steps (steps_left c.args.tables.now new) at.cursor.line at.cursor.found.start at.cursor.found.len) c.requires.progress.parts c.next_at_match.ensures.same c.next_at_match.ensures.items
