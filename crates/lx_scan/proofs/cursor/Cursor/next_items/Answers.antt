use Rattle.lx_scan.proofs.Whole.{appends_whole, cursor_whole, memory_known}
use Rattle.lx_scan.proofs.cursor.Cursor.next_items.Goals as goal

pub returns-in_err-next_items-clause-memory : goal.returns-in_err-next_items-clause-memory
returns-in_err-next_items-clause-memory c = memory_known c.args.tables.now c.args.text.now c.args.self.now c.in_text-progress.result c.in_text-progress.ensures.progress c.in_text-progress.ensures.cursor c.in_text-progress.ensures.start c.in_text-progress.ensures.ended
    c.next_items.new.memory c.in_err-next_items.ensures.memory

pub returns-clause-in_text : goal.returns-clause-in_text
returns-clause-in_text c = cursor_whole c.args.tables.now c.args.text.now c.args.self.now c.in_text-progress.result c.in_text-progress.ensures.progress c.in_text-progress.ensures.cursor c.in_text-progress.ensures.start c.in_text-progress.ensures.ended
    c.next_items.new.self c.in_ok-next_items.ensures.progress c.in_ok-next_items.ensures.gives.given c.in_ok-next_items.ensures.gives.gives

pub returns-clause-memory : goal.returns-clause-memory
returns-clause-memory c = memory_known c.args.tables.now c.args.text.now c.args.self.now c.in_text-progress.result c.in_text-progress.ensures.progress c.in_text-progress.ensures.cursor c.in_text-progress.ensures.start c.in_text-progress.ensures.ended
    c.next_items.new.memory c.in_ok-next_items.ensures.memory

pub returns-clause-items : goal.returns-clause-items
returns-clause-items c = appends_whole c.args.tables.now c.args.text.now c.args.self.now c.in_text-progress.result c.in_text-progress.ensures.progress c.in_text-progress.ensures.cursor c.in_text-progress.ensures.start c.in_text-progress.ensures.ended
    c.next_items.new.self c.args.items.now c.next_items.new.items c.in_ok-next_items.ensures.progress c.in_ok-next_items.ensures.gives
