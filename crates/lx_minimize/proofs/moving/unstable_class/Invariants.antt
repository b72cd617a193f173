use Rattle.std.proofs.Common.{◌≡◌, ◌<◌, ℕ}
use Rattle.lx_minimize.specs.Completion.{step_of}
use Rattle.lx_minimize.specs.Partitions.{block}
use Rattle.lx_minimize.proofs.moving.unstable_class.Given as goal

abbrev pub invariant-loop-class : goal.invariant-loop-class
invariant-loop-class l = (c : ℕ) → c < l.class → block l.p (step_of l.m l.s c) ≡ block l.p (step_of l.m l.other c)
