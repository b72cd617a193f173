use Rattle.std.proofs.Common.{◌≡◌, ◌≤◌, ◌-◌, length, take}
use Rattle.lx_listing.specs.Gathered.{Gathers}
use Rattle.lx_listing.specs.Lines.{lines_at}
use Rattle.lx_listing.proofs.gathering.Gathering.gather_items.Given as goal

abbrev pub invariant-loop-done : goal.invariant-loop-done
invariant-loop-done g l =
    record {
      draft : l.draft ≡ l.fn.draft;
      within : l.done ≤ length l.items;
      wrote : Gathers g.S.LineSink.wrote l.fn.self (lines_at (g.L.LineStyle.style l.fn.draft.style) l.plan.table l.file l.bytes l.base (take l.done l.items)) l.self;
    }

abbrev pub decreases-loop-done : goal.decreases-loop-done
decreases-loop-done g l = length l.items - l.done
