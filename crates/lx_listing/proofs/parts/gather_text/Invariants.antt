use Rattle.std.proofs.Common.{◌≤◌, ◌-◌, length, take}
use Rattle.std.specs.List.{flat_map}
use Rattle.lx_listing.specs.Gathered.{Gathers}
use Rattle.lx_listing.specs.Lines.{escaped}
use Rattle.lx_listing.proofs.parts.gather_text.Given as goal

abbrev pub invariant-loop-done : goal.invariant-loop-done
invariant-loop-done g l =
    record {
      within : l.done ≤ length l.text;
      wrote : Gathers g.S.LineSink.wrote l.fn.sink (flat_map escaped (take l.done l.text)) l.sink;
    }

abbrev pub decreases-loop-done : goal.decreases-loop-done
decreases-loop-done g l = length l.text - l.done
