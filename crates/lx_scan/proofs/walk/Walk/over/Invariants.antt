use Rattle.std.proofs.Common.{◌-◌, ◌+◌, drop, length}
use Rattle.lx_scan.specs.Streams.{IsSilentSince, IsWalked}
use Rattle.lx_scan.proofs.walk.Walk.over.Given as goal

abbrev pub invariant-loop-walk : goal.invariant-loop-walk
invariant-loop-walk l = record {
  walked : IsWalked l.tables l.fn.place (drop l.start l.bytes) l.walk.read l.walk.state.0 l.walk.found.last;
  silent : IsSilentSince l.tables.machine (drop l.start l.bytes) l.walk.read l.walk.state.0 l.walk.found.since l.walk.found.state.0;
}

abbrev pub decreases-loop-walk : goal.decreases-loop-walk
decreases-loop-walk l = length l.bytes - (l.start + l.walk.read)
