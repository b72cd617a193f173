use Rattle.std.proofs.Common.{◌≡◌, length}
use Rattle.lx_reach.specs.Taken.{AreCounted}
use Rattle.lx_reach.proofs.chosen.mark.Given as goal

abbrev pub invariant-loop-place : goal.invariant-loop-place
invariant-loop-place l = record {
  long : length l.flags.items ≡ length l.tables.rules;
  are : AreCounted l.tables l.fn.with_line_ends l.states l.place l.fn.flags.items l.flags.items;
}
