use Rattle.std.proofs.Common.{◌≡◌, ◌≤◌}
use Rattle.lx_c.specs.StateCode.{count_below, is_misfit}
use Rattle.lx_c.proofs.targets.misfit_count.Given as goal

abbrev pub invariant-loop-class : goal.invariant-loop-class
invariant-loop-class l = record {
  number : l.count ≡ count_below (is_misfit l.tables.machine l.state l.comes_last l.target) l.class;
  small : l.count ≤ l.class;
}
