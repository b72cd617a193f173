use Rattle.lx_minimize.specs.Partitions.{AreLabelledBelow, AreBlocksByLabel}
use Rattle.lx_minimize.proofs.partition.labelled_states.Given as goal

abbrev pub invariant-loop-state : goal.invariant-loop-state
invariant-loop-state l = record {
  labelled : AreLabelledBelow l.m l.state l.block_of.items l.representatives.items;
  labels : AreBlocksByLabel l.m l.representatives.items l.block_by_label.items;
}
