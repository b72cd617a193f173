use Rattle.lx_scan.specs.Cursors.{listed}
use Rattle.lx_scan.proofs.Whole.{cursor_whole, items_whole, memory_known}
use Rattle.lx_scan.proofs.cursor.Cursor.next_item_by.Goals as goal

pub returns-clause-in_text : goal.returns-clause-in_text
returns-clause-in_text c = cursor_whole c.args.tables.now c.args.text.now c.args.self.now c.in_text-progress.result c.in_text-progress.ensures.progress c.in_text-progress.ensures.cursor c.in_text-progress.ensures.start c.in_text-progress.ensures.ended
    c.next_item-item.new.self c.next_item-item.ensures.progress (listed c.next_item-item.result) c.next_item-item.ensures.gives

pub returns-clause-memory : goal.returns-clause-memory
returns-clause-memory c = memory_known c.args.tables.now c.args.text.now c.args.self.now c.in_text-progress.result c.in_text-progress.ensures.progress c.in_text-progress.ensures.cursor c.in_text-progress.ensures.start c.in_text-progress.ensures.ended
    c.next_item-item.new.memory c.next_item-item.ensures.memory

pub returns-clause-items : goal.returns-clause-items
returns-clause-items c = items_whole c.args.tables.now c.args.text.now c.args.self.now c.in_text-progress.result c.in_text-progress.ensures.progress c.in_text-progress.ensures.cursor c.in_text-progress.ensures.start c.in_text-progress.ensures.ended
    c.next_item-item.new.self c.next_item-item.ensures.progress (listed c.next_item-item.result) c.next_item-item.ensures.gives
