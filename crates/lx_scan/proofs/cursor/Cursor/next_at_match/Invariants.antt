use Rattle.std.proofs.Common.{◌≡◌, ◌-◌, drop, length}
use Rattle.lx_scan.specs.Steps.{items_of_steps}
use Rattle.lx_scan.proofs.cursor.Cursor.next_at_match.Given as goal

abbrev pub invariant-loop-self : goal.invariant-loop-self
invariant-loop-self l = record {
  same : l.self ≡ record l.fn.self { done = l.self.done };
  items : items_of_steps (drop l.self.done l.steps) l.fn.self.line l.fn.self.found.start l.fn.self.found.len ≡ items_of_steps (drop l.fn.self.done l.steps) l.fn.self.line l.fn.self.found.start l.fn.self.found.len;
}

abbrev pub decreases-loop-self : goal.decreases-loop-self
decreases-loop-self l = length l.steps - l.self.done
